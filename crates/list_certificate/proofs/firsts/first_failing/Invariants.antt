use Rattle.list_certificate.proofs.Ranges.{PositionsPass}
use Rattle.list_certificate.proofs.firsts.first_failing.Given as goal

abbrev pub invariant-loop-position : goal.invariant-loop-position
invariant-loop-position g l = PositionsPass (g.L.Legs.seen l.legs) l.lines l.position
