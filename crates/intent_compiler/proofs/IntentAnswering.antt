-- What holds of the legs of an intent, and of answers and verdicts over them.
use Rattle.std.proofs.Common.{◌≡◌, ◌≢◌, ◌≤◌, Bool, true, false, [], length, Result, Err, refl, sym}
use Rattle.net_model.specs.Network.{Network}
use Rattle.net_model.specs.NetworkRulesTerms.{IsNetwork}
use Rattle.net_model.proofs.PublicLaws.{keeps_from_network}
use Rattle.net_flatness.specs.Flat.{IsFlat}
use Rattle.intent_reader.specs.IntentRules.{has_reach}
use Rattle.intent_reader.specs.IntentRulesTerms.{IsIntent}
use Rattle.intent_reader.specs.declared.intent.Intent.{Intent}
use Rattle.intent_reader.specs.Preferences.{sid_cost_of}
use Rattle.intent_reader.proofs.IntentKeepsLemmas.{keeps_from_intent}
use Rattle.list_pack.specs.declared.types.Solution.{Solution}
use Rattle.list_pack.specs.Least.{IsSolution}
use Rattle.list_pack.specs.Meaning.{Means}
use Rattle.list_pack.specs.LegsValueTerms.{KeepsLaws}
use Rattle.list_certificate.specs.declared.certificate_types.Verdict.{Verdict}
use Rattle.list_certificate.specs.declared.certificate_types.Verdict.TheVariants.{NoList}
use Rattle.list_certificate.specs.CertificateReadingTerms.{IsNetworkOf}
use Rattle.leg_table.proofs.FlatNets.{flat_facts}
use Rattle.leg_table.proofs.PublicLaws.{strict_laws}
use Rattle.binding_legs.proofs.PublicLaws.{binding_laws, binding_means}
use Rattle.loose_legs.proofs.PublicLaws.{loose_laws, loose_means}
use Rattle.loose_legs.specs.IntentSteps.{trace_steps}
use Rattle.loose_legs.proofs.StepLaws.{are_steps}
use Rattle.path_compiler.specs.declared.compiled.Compiled.{Compiled}
use Rattle.path_compiler.specs.declared.compiled.CompileFault.{CompileFault}
use Rattle.path_compiler.specs.declared.compiled.CompileFault.TheVariants as faults
use Rattle.path_compiler.specs.CheckedTerms.{least_of}
use Rattle.path_compiler.specs.Compiled.{IsFound}
use Rattle.path_compiler.proofs.PublicLaws.{answers_same, certifies_by, says_over, verdict_found, verdict_none}
use Rattle.intent_compiler.specs.CompilerAnswers.{IntentAnswers}
use Rattle.intent_compiler.specs.IntentLegs.{ExecutesIf, HandsIf, ListExecutesFor, ListHandsFor, ListRealizesFor, RealizesIf, intent_legs_value, legs_if}
use Rattle.intent_compiler.specs.IntentVerdicts.{SaysFor, SaysOfHandingFor}
use Rattle.intent_compiler.specs.IntentVerdictsTerms.{CertifiesAnswerFor, CertifiesFor}

-- a network has few SIDs where a step of the intent is loose
pub few_sids : (net : Network) (intent : Intent) → IsIntent net intent → has_reach intent.steps ≡ true
    → length net.sids ≤ 128
few_sids net intent is some = (keeps_from_intent net intent is).loose some

module _ (net : Network) (intent : Intent) (network : IsNetwork net) (flat : IsFlat net) (is : IsIntent net intent) where
  laws_if : (b : Bool) → has_reach intent.steps ≡ b → KeepsLaws (legs_if b net intent)
  laws_if false none =
      let keeps = keeps_from_network net network in
      binding_laws net keeps intent is (strict_laws net intent keeps (flat_facts net network flat) is)
  laws_if true some =
      loose_laws net (keeps_from_network net network) intent (trace_steps intent) (are_steps net intent is) (flat_facts net network flat)
      (few_sids net intent is some)

  pub laws_for : KeepsLaws (intent_legs_value net intent)
  laws_for = laws_if (has_reach intent.steps) refl

  means_if : (b : Bool) → has_reach intent.steps ≡ b
      → Means (legs_if b net intent) net (RealizesIf b net intent) (ExecutesIf b net intent) (HandsIf b net intent)
  means_if false none = binding_means net intent network flat is (laws_if false none)
  means_if true some = loose_means net intent (trace_steps intent) network flat (are_steps net intent is) (few_sids net intent is some)

  pub means_for : Means (intent_legs_value net intent) net (ListRealizesFor net intent) (ListExecutesFor net intent)
      (ListHandsFor net intent)
  means_for = means_if (has_reach intent.steps) refl

  -- so their SIDs are SIDs of the network
  pub sids_for : IsNetworkOf net (intent_legs_value net intent)
  sids_for n is_sid =
      let s = means_for.sids n is_sid in
      record { sid = s.0; here = s.1; prefix = s.2.prefix; node = sym s.3 }

cost_if : (b : Bool) (net : Network) (intent : Intent) → (legs_if b net intent).sid_cost ≡ sid_cost_of intent.prefer
cost_if true net intent = refl
cost_if false net intent = refl

-- a SID costs what the intent prefers
pub cost_for : (net : Network) (intent : Intent) → (intent_legs_value net intent).sid_cost ≡ sid_cost_of intent.prefer
cost_for net intent = cost_if (has_reach intent.steps) net intent

pub found_for : (net : Network) (intent : Intent) (reduced : Bool) (c : Compiled) → IsNetwork net → IsFlat net → IsIntent net intent
    → IsFound (intent_legs_value net intent) net (ListRealizesFor net intent) (ListExecutesFor net intent) reduced c
    → CertifiesFor net intent c.solution (least_of (intent_legs_value net intent) c)
found_for net intent reduced c network flat is found =
    verdict_found (intent_legs_value net intent) net (ListRealizesFor net intent) (ListExecutesFor net intent) (ListHandsFor net intent)
    (means_for net intent network flat is) (laws_for net intent network flat is) reduced c found

pub none_for : (net : Network) (intent : Intent) (s : Solution) → IsNetwork net → IsFlat net → IsIntent net intent
    → IsSolution (intent_legs_value net intent) s → s.path ≡ [] → CertifiesFor net intent s NoList
none_for net intent s network flat is solution empty =
    λ head. verdict_none (intent_legs_value net intent) s head (laws_for net intent network flat is) solution empty

pub certifies_for : (net : Network) (intent : Intent) (answer : Result Compiled CompileFault) → IsNetwork net → IsIntent net intent
    → IntentAnswers net intent answer → CertifiesAnswerFor net intent answer
certifies_for net intent answer network is answers =
    certifies_by (intent_legs_value net intent) net (ListRealizesFor net intent) (ListExecutesFor net intent) (ListHandsFor net intent)
    (λ flat. (laws_for net intent network flat is, means_for net intent network flat is)) intent answer answers

pub one_answer_for : (net : Network) (intent : Intent) (a b : Result Compiled CompileFault) → IntentAnswers net intent a
    → IntentAnswers net intent b → a ≢ Err faults.NoMemory → b ≢ Err faults.NoMemory → a ≡ b
one_answer_for net intent a b =
    answers_same (intent_legs_value net intent) net (ListRealizesFor net intent) (ListExecutesFor net intent) intent a b

pub says_handing_for : (net : Network) (intent : Intent) (verdict : Verdict) → IsNetwork net → IsFlat net → IsIntent net intent
    → SaysFor net intent verdict → SaysOfHandingFor net intent verdict
says_handing_for net intent verdict network flat is says =
    says_over (intent_legs_value net intent) net (ListRealizesFor net intent) (ListExecutesFor net intent) (ListHandsFor net intent)
    (means_for net intent network flat is) verdict says
