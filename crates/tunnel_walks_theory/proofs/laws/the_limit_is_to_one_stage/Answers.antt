use Rattle.tunnel_walks_theory.proofs.Counts.{count_enough, count_short}
use Rattle.tunnel_walks_theory.proofs.laws.the_limit_is_to_one_stage.Goals as goal

pub returns-clause-fits : goal.returns-clause-fits
returns-clause-fits c = count_enough

pub returns-clause-short : goal.returns-clause-short
returns-clause-short c = count_short
