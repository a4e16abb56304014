use Rattle.walk_rules.proofs.WalkEnds.{walk_of_stages}
use Rattle.walk_rules.proofs.laws.a_walk_stays_at_places.Goals as goal

pub returns : goal.returns
returns c = walk_of_stages
