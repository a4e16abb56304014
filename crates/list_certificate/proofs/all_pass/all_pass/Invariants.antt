use Rattle.list_certificate.proofs.CertificateCelling.{PositionsGood}
use Rattle.list_certificate.proofs.all_pass.all_pass.Given as goal

abbrev pub invariant-loop-position : goal.invariant-loop-position
invariant-loop-position g l = PositionsGood (g.L.Legs.seen l.legs) l.lines l.position
