use Rattle.list_certificate.proofs.CertificatePathing.{Walking}
use Rattle.list_certificate.proofs.path_lines.walked.Given as goal

abbrev pub invariant-loop-k : goal.invariant-loop-k
invariant-loop-k g l = Walking (g.L.Legs.seen l.legs) l.lines l.k l.state l.spent
