use Rattle.walk_rules.proofs.Judged.{step_less, step_pushes}
use Rattle.walk_rules.proofs.laws.an_execution_lowers_the_hop_limit.Goals as goal

pub returns-clause-lowers : goal.returns-clause-lowers
returns-clause-lowers c = step_less

pub returns-clause-pushes : goal.returns-clause-pushes
returns-clause-pushes c = step_pushes
