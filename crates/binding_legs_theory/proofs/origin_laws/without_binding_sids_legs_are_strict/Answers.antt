use Rattle.binding_legs_theory.proofs.OriginStrict.{finish_strict, leg_strict, shape_strict}
use Rattle.binding_legs_theory.proofs.origin_laws.without_binding_sids_legs_are_strict.Goals as goal

pub returns-clause-leg : goal.returns-clause-leg
returns-clause-leg c net intent position via next unbound = leg_strict net unbound intent next position via

pub returns-clause-finish : goal.returns-clause-finish
returns-clause-finish c net intent position via next unbound = finish_strict net unbound intent next position via

pub returns-clause-shape : goal.returns-clause-shape
returns-clause-shape c net sid unbound = shape_strict net unbound sid
