use Rattle.list_certificate.proofs.CertificateCelling.{RoomsLast}
use Rattle.list_certificate.proofs.all_pass.pass_finish.Given as goal

abbrev pub invariant-loop-room : goal.invariant-loop-room
invariant-loop-room g l = RoomsLast (g.L.Legs.seen l.legs) l.lines l.cell l.n l.room
