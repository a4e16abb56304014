use Rattle.list_certificate.proofs.CertificateCelling.{AllBelow}
use Rattle.list_certificate.proofs.all_pass.pass_legs.Given as goal

abbrev pub invariant-loop-to : goal.invariant-loop-to
invariant-loop-to g l = AllBelow (g.L.Legs.seen l.legs) l.lines l.cell l.to
