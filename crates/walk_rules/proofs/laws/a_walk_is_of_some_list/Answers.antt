use Rattle.walk_rules.proofs.ChoicesTaken.{walk_of_picks, walk_of_list}
use Rattle.walk_rules.proofs.laws.a_walk_is_of_some_list.Goals as goal

pub returns : goal.returns
returns c = record { same = walk_of_picks; list = walk_of_list }
