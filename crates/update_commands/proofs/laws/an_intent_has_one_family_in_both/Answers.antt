use Rattle.update_commands.proofs.Families.{one_family}
use Rattle.update_commands.proofs.laws.an_intent_has_one_family_in_both.Goals as goal

pub returns : goal.returns
returns c old new text both h = one_family old new text both h
