-- Need not be believed: helps proofs and other laws.
-- Terms beside those of `specs/Checked.antt`.
use Rattle.std.specs.Prelude.{ℕ, ◌*◌, Result, Ok, Err}
use Rattle.net_model.specs.Network.{Network}
use Rattle.intent_reader.specs.declared.intent.Intent.{Intent}
use Rattle.intent_reader.specs.Preferences.{sid_cost_of}
use Rattle.list_pack.specs.declared.types.Solution.{Solution}
use Rattle.list_pack.specs.LegsValue.{LegsValue}
use Rattle.list_certificate.specs.declared.certificate_types.Verdict.{Verdict}
use Rattle.list_certificate.specs.declared.certificate_types.Verdict.TheVariants.{Least, NoList}
use Rattle.list_certificate.specs.CertsTerms.{certificate_of}
use Rattle.list_certificate.specs.Verdicts.{IsVerdict}
use Rattle.leg_table.specs.RealizesTerms.{ListHands}
use Rattle.path_compiler.specs.declared.compiled.Compiled.{Compiled}
use Rattle.path_compiler.specs.declared.compiled.CompileFault.{CompileFault}
use Rattle.path_compiler.specs.declared.compiled.CompileFault.TheVariants as compile_faults
use Rattle.path_compiler.specs.Checked.{SaysOver}

-- over the strict steps of an intent
abbrev pub SaysOfHanding : Network → Intent → Verdict → Type 0
SaysOfHanding net intent verdict = SaysOver (sid_cost_of intent.prefer) net (ListHands net intent) verdict

-- the verdict on the certificate of what a search over legs found, wherever its head stands
abbrev pub CertifiesOver : LegsValue → Solution → Verdict → Type 0
CertifiesOver v s verdict = (head : ℕ) → IsVerdict v (certificate_of head s) verdict

-- the verdict with a compiled list's numbers: its containers, what its SIDs cost, and its need
abbrev pub least_of : LegsValue → Compiled → Verdict
least_of v c = Least c.containers (v.sid_cost * c.sids) c.need

-- with an answer of the compiler comes a certificate whose verdict is the answer's: its list's numbers, also where the list is over a bound
-- of the intent, or that there is none
abbrev pub CertifiesAnswerOver : LegsValue → Result Compiled CompileFault → Type 0
CertifiesAnswerOver v (Ok c) = CertifiesOver v c.solution (least_of v c)
CertifiesAnswerOver v (Err (compile_faults.NotFlat why)) = Unit {0}
CertifiesAnswerOver v (Err (compile_faults.NoList s)) = CertifiesOver v s NoList
CertifiesAnswerOver v (Err (compile_faults.TooLong found)) = CertifiesOver v found.solution (least_of v found)
CertifiesAnswerOver v (Err (compile_faults.HopLimit found)) = CertifiesOver v found.solution (least_of v found)
CertifiesAnswerOver v (Err compile_faults.NoMemory) = Unit {0}
