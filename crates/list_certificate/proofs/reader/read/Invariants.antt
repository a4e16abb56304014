use Rattle.std.proofs.Common.{◌≡◌, ◌≤◌, ◌+◌, ◌==◌, length}
use Rattle.std.specs.List.{slice_split}
use Rattle.list_certificate.specs.CertificateReading.{reads, read_of}
use Rattle.list_certificate.specs.CertificateReadingTerms.{read_value}
use Rattle.list_certificate.proofs.OneReading.{IsRead}
use Rattle.list_certificate.proofs.reader.read.Given as goal

abbrev pub invariant-loop-parts : goal.invariant-loop-parts
invariant-loop-parts g l =
    (reads l.net (g.L.Legs.seen l.legs) (slice_split (λ b. b == 10) l.rest) l.line (read_value l.draft)
    ≡ read_of l.net (g.L.Legs.seen l.legs) l.text)
    × IsRead (g.L.Legs.seen l.legs) (read_value l.draft) × (l.line + length l.rest ≤ 1 + length l.text)

abbrev pub decreases-loop-parts : goal.decreases-loop-parts
decreases-loop-parts g l = length l.rest
