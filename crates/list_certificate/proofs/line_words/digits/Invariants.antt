use Rattle.std.proofs.Common.{◌≡◌, drop}
use Rattle.list_certificate.specs.CertificateReading.{digits_from}
use Rattle.list_certificate.proofs.line_words.digits.Given as goal

abbrev pub invariant-loop-b : goal.invariant-loop-b
invariant-loop-b l = digits_from l.value (drop l.b-index l.word) ≡ digits_from 0 l.word
