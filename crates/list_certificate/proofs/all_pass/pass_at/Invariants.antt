use Rattle.list_certificate.proofs.CertificateCelling.{SidsGood}
use Rattle.list_certificate.proofs.all_pass.pass_at.Given as goal

abbrev pub invariant-loop-n : goal.invariant-loop-n
invariant-loop-n g l = SidsGood (g.L.Legs.seen l.legs) l.lines l.position l.n-items l.n-index
