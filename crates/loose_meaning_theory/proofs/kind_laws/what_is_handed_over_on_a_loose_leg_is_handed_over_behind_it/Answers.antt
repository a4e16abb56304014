use Rattle.loose_meaning_theory.proofs.KindLaws.{loose_finish_over, loose_leg_over}
use Rattle.loose_meaning_theory.proofs.kind_laws.what_is_handed_over_on_a_loose_leg_is_handed_over_behind_it.Goals as goal

pub returns-clause-leg : goal.returns-clause-leg
returns-clause-leg c = loose_leg_over

pub returns-clause-finish : goal.returns-clause-finish
returns-clause-finish c = loose_finish_over
