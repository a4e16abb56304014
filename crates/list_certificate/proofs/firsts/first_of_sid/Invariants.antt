use Rattle.list_certificate.proofs.Ranges.{RoomsPass}
use Rattle.list_certificate.proofs.firsts.first_of_sid.Given as goal

abbrev pub invariant-loop-room : goal.invariant-loop-room
invariant-loop-room g l = RoomsPass (g.L.Legs.seen l.legs) l.lines l.position l.n l.room
