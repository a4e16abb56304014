use Rattle.std.proofs.Common.{◌≡◌, drop, find}
use Rattle.list_certificate.specs.CertificateReading.{is_named}
use Rattle.list_certificate.proofs.item.named_sid.Given as goal

abbrev pub invariant-loop-n : goal.invariant-loop-n
invariant-loop-n g l =
    find (is_named l.net (g.L.Legs.seen l.legs) l.prefix l.name) (drop l.n-index l.n-items)
    ≡ find (is_named l.net (g.L.Legs.seen l.legs) l.prefix l.name) l.n-items
