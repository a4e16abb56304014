use Rattle.loose_meaning_theory.proofs.OneLegLaws.{loose_leg_laws}
use Rattle.loose_meaning_theory.proofs.one_leg_laws.loose_legs_keep_the_laws_of_one_leg.Goals as goal

pub returns : goal.returns
returns c = loose_leg_laws
