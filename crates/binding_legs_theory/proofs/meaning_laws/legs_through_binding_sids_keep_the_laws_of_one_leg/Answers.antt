use Rattle.binding_legs_theory.proofs.Means.{binding_leg_laws}
use Rattle.binding_legs_theory.proofs.meaning_laws.legs_through_binding_sids_keep_the_laws_of_one_leg.Goals as goal

pub returns : goal.returns
returns c = binding_leg_laws
