-- The certificate of what the search found is judged as the list was.
use Rattle.std.proofs.Common.{◌≡◌, ℕ, ◌*◌, Bool, List, [], ◌∷◌, Some, Result, Ok, Err, IsOk, refl, sym, ◌∙◌, subst}
use Rattle.net_model.specs.Network.{Network}
use Rattle.net_flatness.specs.Flat.{flatness_of, IsFlat}
use Rattle.net_flatness.specs.declared.not_flat.NotFlat.{NotFlat}
use Rattle.net_flatness.proofs.PublicLaws.{flatness_ok}
use Rattle.intent_reader.specs.declared.intent.Intent.{Intent}
use Rattle.list_pack.specs.declared.types.Container.{Container}
use Rattle.list_pack.specs.declared.types.Cost.{Cost}
use Rattle.list_pack.specs.declared.types.PathStep.{PathStep}
use Rattle.list_pack.specs.declared.types.Solution.{Solution}
use Rattle.list_pack.specs.LegsValue.{LegsValue}
use Rattle.list_pack.specs.LegsValueTerms.{KeepsLaws}
use Rattle.list_pack.specs.Costs.{AtMost, start}
use Rattle.list_pack.specs.Least.{IsLeast, IsSolution}
use Rattle.list_pack.specs.Meaning.{Means}
use Rattle.list_pack.specs.Paths.{cost_with}
use Rattle.list_certificate.specs.declared.certificate_types.Verdict.TheVariants.{Least, NoList}
use Rattle.list_certificate.specs.CertsTerms.{certificate_of}
use Rattle.list_certificate.specs.CertificateLaws.{IsAcceptedBy}
use Rattle.list_certificate.specs.Verdicts.{IsVerdict}
use Rattle.list_certificate.proofs.PublicLaws.{solution_accepted}
use Rattle.path_compiler.specs.declared.compiled.Compiled.{Compiled}
use Rattle.list_pack.proofs.PublicLaws.{at_most_both}
use Rattle.path_compiler.specs.declared.compiled.CompileFault.{CompileFault}
use Rattle.path_compiler.specs.declared.compiled.CompileFault.TheVariants as faults
use Rattle.path_compiler.specs.CheckedTerms.{CertifiesAnswerOver, CertifiesOver, least_of}
use Rattle.path_compiler.specs.Compiled.{AnswersOver, IsChosen, IsFound}
use Rattle.path_compiler.specs.ListCosts.{list_cost}
use Rattle.path_compiler.proofs.CompilerAnswering.{none_realizes}
use Rattle.path_compiler.proofs.ListCosting.{found_costs, list_costs, under_list}

module _ (v : LegsValue) (net : Network) (Realizes Executes Hands : List Container → ℕ → Type 0)
    (means : Means v net Realizes Executes Hands)
    (laws : KeepsLaws v) where
  -- the least cost of a path is that of a chosen list
  least_chosen : (list : List Container) (need : ℕ) (cost : Cost) → IsChosen v.sid_cost net Realizes Executes list need
      → IsLeast v start (Some cost) → cost ≡ list_cost v.sid_cost list need
  least_chosen list need cost chosen least =
      let down : AtMost cost (list_cost v.sid_cost list need)
      = under_list v net Realizes Executes Hands means (Some cost) least.least list need chosen.whole.legal chosen.whole.realizes in
      let path = least.attains in
      let made = means.lists path.0 cost path.1 in
      let up : AtMost (list_cost v.sid_cost list need) cost
      = subst (λ (c : Cost). AtMost (list_cost v.sid_cost list need) c) (list_costs v net path.0 cost path.1 made.of_path)
      (chosen.least _ cost.hops made.legal made.realizes) in
      at_most_both cost (list_cost v.sid_cost list need) down up

  module _ (reduced : Bool) (c : Compiled) (found : IsFound v net Realizes Executes reduced c) (head : ℕ) where
    least_by : (path : List PathStep) → c.solution.path ≡ path → IsAcceptedBy v head c.solution path
        → IsVerdict v (certificate_of head c.solution) (least_of v c)
    least_by [] is accepted =
        absurd (none_realizes v net Realizes Executes Hands means c.solution found.solution is c.list c.need found.chosen.whole.legal
        found.chosen.whole.realizes)
    least_by (p ∷ ps) is accepted =
        let same : accepted.0 ≡ cost_with c.containers (v.sid_cost * c.sids) c.need
        = least_chosen c.list c.need accepted.0 found.chosen accepted.1.least ∙ found_costs v net Realizes Executes reduced c found in
        subst (λ (cost : Cost). IsVerdict v (certificate_of head c.solution) (Least cost.containers cost.sids cost.hops)) same
        accepted.1.verdict

    pub verdict_found : IsVerdict v (certificate_of head c.solution) (least_of v c)
    verdict_found = least_by c.solution.path refl (solution_accepted v head c.solution laws found.solution)

pub verdict_none : (v : LegsValue) (s : Solution) (head : ℕ) → KeepsLaws v → IsSolution v s → s.path ≡ []
    → IsVerdict v (certificate_of head s) NoList
verdict_none v s head laws is empty = subst (IsAcceptedBy v head s) empty (solution_accepted v head s laws is)

flat_by : (net : Network) → net.hidden ≡ [] → flatness_of net ≡ Ok tt → IsFlat net
flat_by net whole is = (flatness_ok net whole).0 (subst (λ (r : Result (Unit {0}) NotFlat). IsOk r) (sym is) refl)

-- of legs that keep the laws and mean lists where the network is flat each answer is certified
module _ (v : LegsValue) (net : Network) (Realizes Executes Hands : List Container → ℕ → Type 0)
    (holds : IsFlat net → KeepsLaws v × Means v net Realizes Executes Hands) where
  found_certified : (reduced : Bool) (c : Compiled) → IsFlat net → IsFound v net Realizes Executes reduced c
      → CertifiesOver v c.solution (least_of v c)
  found_certified reduced c flat found =
      verdict_found v net Realizes Executes Hands (holds flat).1 (holds flat).0 reduced c found

  pub certifies_by : (intent : Intent) (answer : Result Compiled CompileFault) → AnswersOver v net Realizes Executes intent answer
      → CertifiesAnswerOver v answer
  certifies_by intent (Ok c) answers = found_certified intent.reduced c (flat_by net answers.whole answers.flat) answers.found
  certifies_by intent (Err (faults.NotFlat why)) answers = tt
  certifies_by intent (Err (faults.NoList s)) answers =
      λ head. verdict_none v s head (holds (flat_by net answers.whole answers.flat)).0 answers.solution answers.no_path
  certifies_by intent (Err (faults.TooLong c)) answers =
      found_certified intent.reduced c (flat_by net answers.whole answers.flat) answers.found
  certifies_by intent (Err (faults.HopLimit c)) answers =
      found_certified intent.reduced c (flat_by net answers.whole answers.flat) answers.found
  certifies_by intent (Err faults.NoMemory) answers = tt
