-- Where no step is loose and there is no binding SID, what is wanted goes by strict steps.
use Rattle.std.proofs.Common.{◌↔◌, ℕ, List, Option, None, Some, Result, Ok, Err, sym, subst}
use Rattle.net_model.specs.Network.{Network}
use Rattle.net_flatness.specs.declared.not_flat.NotFlat.{NotFlat}
use Rattle.intent_reader.specs.declared.intent.Intent.{Intent}
use Rattle.list_pack.specs.LegsValue.{LegsValue}
use Rattle.list_certificate.specs.declared.certificate_types.Cert.{Cert}
use Rattle.list_certificate.specs.declared.certificate_types.Verdict.{Verdict}
use Rattle.list_certificate.specs.Verdicts.{IsVerdict}
use Rattle.leg_table.specs.StrictLegsValue.{legs_value}
use Rattle.intent_compiler.specs.LegKinds.{BindsNothing}
use Rattle.intent_compiler.specs.LegKindsTerms.{ReachesNothing}
use Rattle.intent_compiler.proofs.PublicLaws.{answers_strict, handing_strict, legs_strict, none_less_strict, says_strict}
use Rattle.command_output.specs.declared.refusal.Refusal.{Refusal}
use Rattle.command_output.specs.OutputPieces.{Output}
use Rattle.command_inputs.specs.Judgements.{cert_in}
use Rattle.compile_commands.specs.CheckCommand.{CertWants, FlatWants, IsChecked}
use Rattle.compile_commands.specs.CompileCommand.{AnswerWants, CompiledWants}
use Rattle.compile_commands.specs.Strict.{IsStrictlyChecked, StrictCert, StrictlyCompiled, StrictlyJudged}

module _ (net : Network) (intent : Intent) (none : BindsNothing net) (reach : ReachesNothing intent) where
  pub compiled_strict : (output : Output) → CompiledWants AnswerWants net intent output ↔ StrictlyCompiled net intent output
  compiled_strict output = (
    λ h. (h.0, (answers_strict net intent none reach h.0).0 h.1, (none_less_strict net intent none reach h.0).0 h.2, h.3),
    λ h. (h.0, (answers_strict net intent none reach h.0).1 h.1, (none_less_strict net intent none reach h.0).1 h.2, h.3),
  )

  checked_strict : (cert : Cert) (verdict : Verdict) → IsChecked net intent cert verdict ↔ IsStrictlyChecked net intent cert verdict
  checked_strict cert verdict = (
    λ h. record {
      is = subst (λ (v : LegsValue). IsVerdict v cert verdict) (legs_strict net intent none reach) h.is;
      says = (says_strict net intent none reach verdict).0 h.says;
      handing = (handing_strict net intent none reach verdict).0 h.handing;
    },
    λ h. record {
      is = subst (λ (v : LegsValue). IsVerdict v cert verdict) (sym (legs_strict net intent none reach)) h.is;
      says = (says_strict net intent none reach verdict).1 h.says;
      handing = (handing_strict net intent none reach verdict).1 h.handing;
    },
  )

  cert_strict : (read : Result Cert Refusal) (output : Output) → CertWants net intent read output ↔ StrictCert net intent read output
  cert_strict (Err refusal) output = (λ h. h, λ h. h)
  cert_strict (Ok cert) output = (
    λ h. (h.0, (checked_strict cert h.0).0 h.1, h.2),
    λ h. (h.0, (checked_strict cert h.0).1 h.1, h.2),
  )

  pub judged_strict : (flat : Result (Unit {0}) NotFlat) (cert : Option (List ℕ)) (output : Output)
      → FlatWants net intent flat cert output ↔ StrictlyJudged net intent flat cert output
  judged_strict (Err why) cert output = (λ h. h, λ h. h)
  judged_strict (Ok flat) None output = (λ h. h, λ h. h)
  judged_strict (Ok flat) (Some text) output = (
    λ h. (cert_strict (cert_in net (legs_value net intent) text) output).0
        (subst (λ (v : LegsValue). CertWants net intent (cert_in net v text) output) (legs_strict net intent none reach) h),
    λ h. subst (λ (v : LegsValue). CertWants net intent (cert_in net v text) output) (sym (legs_strict net intent none reach))
        ((cert_strict (cert_in net (legs_value net intent) text) output).1 h),
  )
