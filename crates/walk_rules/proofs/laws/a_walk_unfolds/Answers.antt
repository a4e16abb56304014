use Rattle.walk_rules.proofs.WalkWalks.{walk_of_add_one, walk_of_none, walk_of_zero}
use Rattle.walk_rules.proofs.laws.a_walk_unfolds.Goals as goal

pub returns : goal.returns
returns c = record { stage = walk_of_add_one; nowhere = walk_of_none; none = walk_of_zero }
