use Rattle.list_certificate.proofs.Ranges.{SidsPass}
use Rattle.list_certificate.proofs.firsts.first_of_position.Given as goal

abbrev pub invariant-loop-n : goal.invariant-loop-n
invariant-loop-n g l = SidsPass (g.L.Legs.seen l.legs) l.lines l.position l.n-items l.n-index
