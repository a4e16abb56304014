use Rattle.list_certificate.proofs.MovesPassing.{SomeLegsTo}
use Rattle.list_certificate.proofs.good.passes_legs_to.Given as goal

abbrev pub invariant-loop-n : goal.invariant-loop-n
invariant-loop-n g l = SomeLegsTo (g.L.Legs.seen l.legs) l.lines l.costed_state.state l.to l.n-items l.n-index
