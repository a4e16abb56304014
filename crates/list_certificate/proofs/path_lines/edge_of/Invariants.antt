use Rattle.list_certificate.proofs.CertificatePathing.{NoEdgeBelow}
use Rattle.list_certificate.proofs.path_lines.edge_of.Given as goal

abbrev pub invariant-loop-to : goal.invariant-loop-to
invariant-loop-to g l = NoEdgeBelow (g.L.Legs.seen l.legs) l.state l.step l.to
