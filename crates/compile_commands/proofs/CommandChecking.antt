-- What is judged of a certificate over the legs of an intent, by the verdict on it.
use Rattle.std.proofs.Common.{◌≡◌, inl, inr, ℕ, List, [], ◌∷◌, get_or, Option, None, Some, refl, sym, ap₂, subst}
use Rattle.std.proofs.lemmas.Option.{slice_get_within, slice_get-get_or, get_or_from_slice_get}
use Rattle.net_model.specs.Network.{Network}
use Rattle.net_model.specs.NetworkRulesTerms.{IsNetwork}
use Rattle.net_flatness.specs.Flat.{IsFlat}
use Rattle.intent_reader.specs.declared.intent.Intent.{Intent}
use Rattle.intent_reader.specs.IntentRulesTerms.{IsIntent}
use Rattle.list_pack.specs.declared.types.Potential.{Potential}
use Rattle.list_pack.specs.declared.types.Solution.{Solution}
use Rattle.list_pack.specs.Costs.{IsStateBy}
use Rattle.list_pack.specs.Least.{IsSolution}
use Rattle.list_certificate.specs.declared.certificate_types.Cert.{Cert}
use Rattle.list_certificate.specs.declared.certificate_types.Verdict.{Verdict}
use Rattle.list_certificate.specs.declared.certificate_types.Verdict.TheVariants.{Least, NoList, No}
use Rattle.list_certificate.specs.declared.certificate_types.Why.{Why}
use Rattle.list_certificate.specs.declared.certificate_types.Why.TheVariants as whys
use Rattle.list_certificate.specs.SpellingTerms.{IsKnownBy}
use Rattle.list_certificate.specs.Verdicts.{IsVerdict}
use Rattle.intent_compiler.specs.IntentLegs.{intent_legs_value}
use Rattle.intent_compiler.proofs.PublicLaws.{sids_for}
use Rattle.intent_compiler.specs.IntentVerdicts.{SaysFor, SaysOfHandingFor}
use Rattle.command_output.specs.declared.conclusion.Judgement.{Judgement}
use Rattle.command_output.specs.declared.status.Status.{Status}
use Rattle.command_output.specs.declared.status.Status.TheVariants as statuses
use Rattle.compile_commands.specs.CheckCommand.{verdict_line, verdict_status}
use Rattle.compile_commands.specs.CheckCommandTerms.{KnowsState, JudgesAs}
use Rattle.compile_commands.specs.CompileCommandTerms.{KnowsStates}
use Rattle.command_output.specs.Outputs.{reported}
use Rattle.command_output.specs.OutputLinesTerms.{bytes_of_text}
use Rattle.command_output.specs.CommandSpec.{IsOneOf}

module _ (net : Network) (intent : Intent) (network : IsNetwork net) (flat : IsFlat net) (is : IsIntent net intent) where
  -- a state that a verdict tells is one of the network
  known_by : (position : ℕ) (via : Option ℕ) (room : ℕ) → IsStateBy (intent_legs_value net intent) position via room → IsKnownBy net via
  known_by position None room h = tt
  known_by position (Some n) room h =
      let s = sids_for net intent network flat is n (position, h.0, h.1) in slice_get_within net.sids n s.sid s.here

  knows_why : (cert : Cert) (line : ℕ) (why : Why) → IsVerdict (intent_legs_value net intent) cert (No line why)
      → KnowsState net (No line why)
  knows_why cert line whys.Edge h = tt
  knows_why cert line (whys.Unlisted state) h = known_by state.position state.via state.room h.is_state
  knows_why cert line whys.Path h = tt
  knows_why cert line whys.Tight h = tt

  pub knows_state : (cert : Cert) (verdict : Verdict) → IsVerdict (intent_legs_value net intent) cert verdict → KnowsState net verdict
  knows_state cert (Least containers sids hops) h = tt
  knows_state cert NoList h = tt
  knows_state cert (No line why) h = knows_why cert line why h

  -- and so are those of what the search found
  pub knows_states : (s : Solution) → IsSolution (intent_legs_value net intent) s → KnowsStates net s
  knows_states s solved k d h =
      let q : Potential = get_or s.potentials k d in
      let here = get_or_from_slice_get s.potentials k q q (slice_get-get_or s.potentials k d h) in
      known_by q.state.position q.state.via q.state.room (solved.potentials.exact q (k, h, here)).0

own_status : (verdict : Verdict) → IsOneOf (statuses.Done ∷ statuses.SaysNo ∷ []) (verdict_status verdict)
own_status (Least containers sids hops) = inl refl
own_status NoList = inl refl
own_status (No line why) = inr (inl refl)

-- a verdict's line and status are wanted of the certificate
pub judges_as : (net : Network) (intent : Intent) (cert : Cert) (verdict : Verdict) (judgement : Judgement)
    → IsVerdict (intent_legs_value net intent) cert verdict → SaysFor net intent verdict → SaysOfHandingFor net intent verdict
    → bytes_of_text judgement.line ≡ verdict_line net intent.prefer verdict → judgement.status ≡ verdict_status verdict
    → JudgesAs net intent cert judgement
judges_as net intent cert verdict judgement is says handing line status = (
  (verdict, record { is = is; says = says; handing = handing }, ap₂ (λ (bytes : List ℕ) (s : Status). reported bytes [] s) line status),
  subst (IsOneOf (statuses.Done ∷ statuses.SaysNo ∷ [])) (sym status) (own_status verdict),
)

pub ruleset judgements = (knows_state, judges_as)
