use Rattle.walk_rules.proofs.WalkEnds.{end_of_goes_on, walk_of_short_end}
use Rattle.walk_rules.proofs.laws.a_walk_that_could_go_on_used_its_stages.Goals as goal

pub returns : goal.returns
returns c = record { goes_on = end_of_goes_on; short = walk_of_short_end }
