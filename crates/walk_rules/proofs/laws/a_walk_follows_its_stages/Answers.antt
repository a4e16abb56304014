use Rattle.walk_rules.proofs.WalkWalks.{walk_of_is, walk_of_one}
use Rattle.walk_rules.proofs.laws.a_walk_follows_its_stages.Goals as goal

pub returns : goal.returns
returns c = record { is = walk_of_is; one = walk_of_one }
