use Rattle.list_certificate.proofs.CertificatePathing.{NoLast}
use Rattle.list_certificate.proofs.path_lines.last_of.Given as goal

abbrev pub invariant-loop-n : goal.invariant-loop-n
invariant-loop-n g l = NoLast (g.L.Legs.seen l.legs) l.state l.step l.n-items l.n-index
