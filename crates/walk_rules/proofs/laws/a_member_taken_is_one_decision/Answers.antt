use Rattle.walk_rules.proofs.WalkChoices.{decisions_one, decisions_zero}
use Rattle.walk_rules.proofs.laws.a_member_taken_is_one_decision.Goals as goal

pub returns : goal.returns
returns c = record { one = decisions_one; zero = decisions_zero }
