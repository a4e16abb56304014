-- What the file of a certificate gives, as it was judged.
use Rattle.std.proofs.Common.{◌≡◌, ℕ, ◌≤◌, false, List, length, nat_lt, Some, IfSome, Result, Ok, Err, ap}
use Rattle.std.proofs.lemmas.Bool.{le-ltb}
use Rattle.srx_edge.specs.Edge.{file_named}
use Rattle.srx_edge.specs.FilesRead.{FilesSeen, asked_for}
use Rattle.net_model.specs.Network.{Network}
use Rattle.list_pack.specs.LegsValue.{LegsValue}
use Rattle.list_certificate.specs.declared.certificate_types.Cert.{Cert}
use Rattle.list_certificate.specs.declared.certificate_types.CertFault.{CertFault}
use Rattle.list_certificate.specs.declared.certificate_types.CertFault.TheVariants as certs
use Rattle.list_certificate.specs.CertificateReading.{read_of}
use Rattle.list_certificate.specs.CertificateReadingTerms.{GivesCertificate}
use Rattle.net_model.specs.declared.limits.TheConstants.{MAX_TEXT_BYTES}
use Rattle.command_output.specs.declared.refusal.Refusal.TheVariants as refusals
use Rattle.command_output.specs.CommandAnswers.{JudgesFile}
use Rattle.command_output.specs.HaltsTerms.{halt_of_cert}
use Rattle.command_inputs.specs.Judgements.{cert_by, cert_in}
use Rattle.command_inputs.proofs.InputJudging.{judged_text, asks_one}

-- a text within the limit that was read as a certificate, or has a bad line

cert_small : (net : Network) (v : LegsValue) (text : List ℕ) (read : Result Cert ℕ) → length text ≤ MAX_TEXT_BYTES
    → read_of net v text ≡ read → cert_in net v text ≡ cert_by read
cert_small net v text read fits is =
    let small : nat_lt MAX_TEXT_BYTES (length text) ≡ false = le-ltb MAX_TEXT_BYTES (length text) fits in
    rw small (ap cert_by is)

pub cert_judged : (net : Network) (v : LegsValue) (cert : Cert) (text name : List ℕ) (old new : FilesSeen) → length text ≤ MAX_TEXT_BYTES
    → IfSome old.told (λ files. file_named files name ≡ Some text) → new ≡ asked_for name old
    → GivesCertificate (Ok cert) (read_of net v text)
    → JudgesFile (cert_in net v) name (Ok cert) old new
cert_judged net v cert text name old new fits reads seen h =
    (judged_text (cert_in net v) (Ok cert) text name old.told reads (cert_small net v text (Ok cert) fits h), seen)

pub cert_refused : (net : Network) (v : LegsValue) (fault : CertFault) (text name : List ℕ) (old new : FilesSeen)
    → length text ≤ MAX_TEXT_BYTES → IfSome old.told (λ files. file_named files name ≡ Some text) → new ≡ asked_for name old
    → GivesCertificate (Err fault) (read_of net v text)
    → JudgesFile (cert_in net v) name (Err (halt_of_cert fault)) old new
cert_refused net v (certs.BadCert line) text name old new fits reads seen h =
    (judged_text (cert_in net v) (Err (refusals.BadCert line)) text name old.told reads (cert_small net v text (Err line) fits h), seen)
cert_refused net v certs.NoMemory text name old new fits reads seen h = asks_one name old new seen

pub ruleset certificates = (cert_judged, cert_refused)
