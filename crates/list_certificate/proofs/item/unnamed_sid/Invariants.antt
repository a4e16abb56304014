use Rattle.std.proofs.Common.{◌≡◌, drop, find}
use Rattle.list_certificate.specs.CertificateReading.{is_unnamed}
use Rattle.list_certificate.proofs.item.unnamed_sid.Given as goal

abbrev pub invariant-loop-n : goal.invariant-loop-n
invariant-loop-n g l =
    find (is_unnamed (g.L.Legs.seen l.legs) l.prefix) (drop l.n-index l.n-items)
    ≡ find (is_unnamed (g.L.Legs.seen l.legs) l.prefix) l.n-items
