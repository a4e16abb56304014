use Rattle.list_certificate.proofs.CertificateCelling.{AllEnds}
use Rattle.list_certificate.proofs.all_pass.pass_ends.Given as goal

abbrev pub invariant-loop-n : goal.invariant-loop-n
invariant-loop-n g l = AllEnds (g.L.Legs.seen l.legs) l.lines l.cell l.n-items l.n-index
