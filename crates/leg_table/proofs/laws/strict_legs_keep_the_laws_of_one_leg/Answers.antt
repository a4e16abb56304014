use Rattle.leg_table.proofs.StrictMeanings.{strict_leg_laws}
use Rattle.leg_table.proofs.laws.strict_legs_keep_the_laws_of_one_leg.Goals as goal

pub returns : goal.returns
returns c = λ net intent t network flat is_intent family. strict_leg_laws net intent network flat is_intent t family
