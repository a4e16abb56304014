-- Need not be believed: helps proofs and other laws.
-- What is wanted of `compile` and of `check` where no step is loose and the network has no binding SID: what answers and
-- verdicts over the strict steps of the intent want.
use Rattle.std.specs.Prelude.{◌≡◌, List, Option, Result, Ok, Err, IsSomeAnd, ℕ}
use Rattle.net_model.specs.Network.{Network}
use Rattle.net_flatness.specs.declared.not_flat.NotFlat.{NotFlat}
use Rattle.intent_reader.specs.Preferences.{sid_cost_of}
use Rattle.intent_reader.specs.declared.intent.Intent.{Intent}
use Rattle.list_certificate.specs.declared.certificate_types.Cert.{Cert}
use Rattle.list_certificate.specs.declared.certificate_types.Verdict.{Verdict}
use Rattle.list_certificate.specs.Verdicts.{IsVerdict}
use Rattle.leg_table.specs.Realizes.{ListRealizes}
use Rattle.leg_table.specs.RealizesTerms.{ListExecutes}
use Rattle.leg_table.specs.StrictLegsValue.{legs_value}
use Rattle.path_compiler.specs.declared.compiled.Compiled.{Compiled}
use Rattle.path_compiler.specs.declared.compiled.CompileFault.{CompileFault}
use Rattle.path_compiler.specs.Checked.{Says}
use Rattle.path_compiler.specs.CheckedTerms.{SaysOfHanding}
use Rattle.path_compiler.specs.CompiledTerms.{CompileAnswers, NoLessHandsOver}
use Rattle.command_output.specs.declared.refusal.Refusal.{Refusal}
use Rattle.command_output.specs.Halts.{flat_refusal}
use Rattle.command_output.specs.Outputs.{refused}
use Rattle.command_output.specs.OutputPieces.{Output}
use Rattle.command_inputs.specs.Judgements.{cert_in}
use Rattle.compile_commands.specs.CheckCommand.{told_of}
use Rattle.compile_commands.specs.CompileCommand.{AnswerWants}

abbrev pub StrictlyCompiled : Network → Intent → Output → Type 0
StrictlyCompiled net intent output =
    (answer : Result Compiled CompileFault) × CompileAnswers net intent answer × NoLessHandsOver net intent answer
    × AnswerWants net intent answer output

pub record IsStrictlyChecked (net : Network) (intent : Intent) (cert : Cert) (verdict : Verdict) : Type 0 where
  pub is : IsVerdict (legs_value net intent) cert verdict
  pub says : Says (sid_cost_of intent.prefer) net (ListRealizes net intent) (ListExecutes net intent) verdict
  pub handing : SaysOfHanding net intent verdict

abbrev pub StrictCert : Network → Intent → Result Cert Refusal → Output → Type 0
StrictCert net intent (Err refusal) output = output ≡ refused refusal
StrictCert net intent (Ok cert) output =
    (verdict : Verdict) × IsStrictlyChecked net intent cert verdict × (output ≡ told_of net intent.prefer verdict)

abbrev pub StrictlyJudged : Network → Intent → Result (Unit {0}) NotFlat → Option (List ℕ) → Output → Type 0
StrictlyJudged net intent (Err why) cert output = output ≡ refused (flat_refusal net why)
StrictlyJudged net intent (Ok flat) cert output =
    IsSomeAnd cert (λ text. StrictCert net intent (cert_in net (legs_value net intent) text) output)
