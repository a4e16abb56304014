use Rattle.walk_rules.proofs.WalkWalks.{take_walk_of, walk_of_add}
use Rattle.walk_rules.proofs.laws.a_walk_is_a_beginning.Goals as goal

pub returns : goal.returns
returns c = record { front = take_walk_of; rest = walk_of_add }
