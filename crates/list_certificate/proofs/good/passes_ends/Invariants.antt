use Rattle.list_certificate.proofs.MovesPassing.{SomeEnds}
use Rattle.list_certificate.proofs.good.passes_ends.Given as goal

abbrev pub invariant-loop-n : goal.invariant-loop-n
invariant-loop-n g l = SomeEnds (g.L.Legs.seen l.legs) l.lines l.costed_state.state l.n-items l.n-index
