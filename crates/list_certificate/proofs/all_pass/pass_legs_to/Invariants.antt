use Rattle.list_certificate.proofs.CertificateCelling.{AllLegsTo}
use Rattle.list_certificate.proofs.all_pass.pass_legs_to.Given as goal

abbrev pub invariant-loop-n : goal.invariant-loop-n
invariant-loop-n g l = AllLegsTo (g.L.Legs.seen l.legs) l.lines l.cell l.to l.n-items l.n-index
