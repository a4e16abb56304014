use Rattle.list_certificate.proofs.CertificateCelling.{RoomsMove}
use Rattle.list_certificate.proofs.all_pass.pass_leg.Given as goal

abbrev pub invariant-loop-room : goal.invariant-loop-room
invariant-loop-room g l = RoomsMove (g.L.Legs.seen l.legs) l.lines l.cell l.next.sid l.room
