use Rattle.walk_rules.proofs.WalkWalks.{walk_of_ended}
use Rattle.walk_rules.proofs.laws.an_ended_walk_stays.Goals as goal

pub returns : goal.returns
returns c = walk_of_ended
