-- What may be told of an answer of the compiler: its list has values, its path is that of the list, and the text of its certificate is UTF-8.
use Rattle.std.proofs.Common.{◌≡◌, ℕ, List, [], All, Result, Ok, Err, sym, refl, subst}
use Rattle.std.specs.Prelude.{IsOk}
use Rattle.std.specs.Str.{IsUtf8}
use Rattle.std.proofs.lemmas.List.Elements.{All-nil}
use Rattle.v6_addr.specs.AddressTerms.{IsPrefix}
use Rattle.net_model.specs.Network.{Network}
use Rattle.net_model.specs.NetworkRulesTerms.{IsNetwork}
use Rattle.net_model.proofs.PublicLaws.{keeps_from_network}
use Rattle.net_flatness.specs.declared.not_flat.NotFlat.{NotFlat}
use Rattle.net_flatness.specs.Flat.{flatness_of, IsFlat}
use Rattle.net_flatness.proofs.PublicLaws.{flatness_ok}
use Rattle.intent_reader.specs.Preferences.{sid_cost_of}
use Rattle.intent_reader.specs.declared.intent.Intent.{Intent}
use Rattle.intent_reader.specs.IntentRulesTerms.{IsIntent}
use Rattle.list_pack.specs.declared.types.PathStep.{PathStep}
use Rattle.list_pack.specs.declared.types.Solution.{Solution}
use Rattle.list_pack.specs.Least.{IsSolution}
use Rattle.list_pack.specs.SidLists.{steps_in}
use Rattle.list_certificate.specs.Spelling.{spelled}
use Rattle.path_compiler.specs.declared.compiled.Compiled.{Compiled}
use Rattle.path_compiler.specs.declared.compiled.CompileFault.{CompileFault}
use Rattle.path_compiler.specs.declared.compiled.CompileFault.TheVariants as faults
use Rattle.path_compiler.specs.Compiled.{IsFound}
use Rattle.intent_compiler.specs.IntentLegs.{ListExecutesFor, ListRealizesFor, intent_legs_value}
use Rattle.intent_compiler.specs.CompilerAnswers.{IntentAnswers}
use Rattle.intent_compiler.proofs.PublicLaws.{cost_for, laws_for}
use Rattle.compile_commands.proofs.Compiling.{knows_kept, knows_long, knows_over, values_kept, values_long, values_over}
use Rattle.pce_answers.proofs.CertificateTexts.{certificate_is_text, list_steps}

module _ (net : Network) (intent : Intent) (network : IsNetwork net) (is : IsIntent net intent) (whole : net.hidden ≡ [])
    (says : flatness_of net ≡ Ok tt) where
  flat : IsFlat net
  flat = (flatness_ok net whole).0 (subst (λ (r : Result (Unit {0}) NotFlat). IsOk r) (sym says) refl)

  text_of : (s : Solution) → IsSolution (intent_legs_value net intent) s → All (λ (step : PathStep). IsPrefix step.prefix) s.path
      → IsUtf8 (spelled net (sid_cost_of intent.prefer) s)
  text_of s solution path =
      subst (λ (cost : ℕ). IsUtf8 (spelled net cost s)) (cost_for net intent)
      (certificate_is_text net (keeps_from_network net network) (intent_legs_value net intent) s (laws_for net intent network flat is)
      solution.potentials path)

  text_found : (c : Compiled)
      → IsFound (intent_legs_value net intent) net (ListRealizesFor net intent) (ListExecutesFor net intent) intent.reduced c
      → IsUtf8 (spelled net (sid_cost_of intent.prefer) c.solution)
  text_found c found =
      text_of c.solution found.solution
      (subst (All (λ (step : PathStep). IsPrefix step.prefix)) (sym found.path)
      (list_steps net (keeps_from_network net network) c.list found.chosen.whole.legal.named))

  text_none : (s : Solution) → IsSolution (intent_legs_value net intent) s → s.path ≡ []
      → IsUtf8 (spelled net (sid_cost_of intent.prefer) s)
  text_none s solution none =
      text_of s solution (subst (All (λ (step : PathStep). IsPrefix step.prefix)) (sym none) (All-nil (λ (step : PathStep). IsPrefix step.prefix)))

-- ---- by the answer

module _ (net : Network) (intent : Intent) (c : Compiled) (network : IsNetwork net) where
  pub path_kept : IntentAnswers net intent (Ok c) → c.solution.path ≡ steps_in c.list
  path_kept answers = answers.found.path

  pub path_long : IntentAnswers net intent (Err (faults.TooLong c)) → c.solution.path ≡ steps_in c.list
  path_long answers = answers.found.path

  pub path_over : IntentAnswers net intent (Err (faults.HopLimit c)) → c.solution.path ≡ steps_in c.list
  path_over answers = answers.found.path

  pub text_kept : IsIntent net intent → IntentAnswers net intent (Ok c) → IsUtf8 (spelled net (sid_cost_of intent.prefer) c.solution)
  text_kept is answers = text_found net intent network is answers.whole answers.flat c answers.found

  pub text_long : IsIntent net intent → IntentAnswers net intent (Err (faults.TooLong c))
      → IsUtf8 (spelled net (sid_cost_of intent.prefer) c.solution)
  text_long is answers = text_found net intent network is answers.whole answers.flat c answers.found

  pub text_over : IsIntent net intent → IntentAnswers net intent (Err (faults.HopLimit c))
      → IsUtf8 (spelled net (sid_cost_of intent.prefer) c.solution)
  text_over is answers = text_found net intent network is answers.whole answers.flat c answers.found

pub text_none_in : (net : Network) (intent : Intent) (compiled : Result Compiled CompileFault) (s : Solution) → IsNetwork net
    → IsIntent net intent → IntentAnswers net intent compiled → compiled ≡ Err (faults.NoList s)
    → IsUtf8 (spelled net (sid_cost_of intent.prefer) s)
text_none_in net intent compiled s network is answers none =
    let a = subst (IntentAnswers net intent) none answers in text_none net intent network is a.whole a.flat s a.solution a.no_path

pub ruleset told = (
  values_kept,
  values_long,
  values_over,
  knows_kept,
  knows_long,
  knows_over,
  path_kept,
  path_long,
  path_over,
  text_kept,
  text_long,
  text_over,
)
