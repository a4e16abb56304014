use Rattle.list_certificate.proofs.MovesPassing.{LegsBelow}
use Rattle.list_certificate.proofs.good.passes_legs.Given as goal

abbrev pub invariant-loop-to : goal.invariant-loop-to
invariant-loop-to g l = LegsBelow (g.L.Legs.seen l.legs) l.lines l.costed_state.state l.to
