use Rattle.list_certificate.proofs.CertificatePathing.{NoEdgeTo}
use Rattle.list_certificate.proofs.path_lines.edge_to.Given as goal

abbrev pub invariant-loop-n : goal.invariant-loop-n
invariant-loop-n g l = NoEdgeTo (g.L.Legs.seen l.legs) l.state l.step l.to l.n-items l.n-index
