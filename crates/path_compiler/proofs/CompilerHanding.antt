-- The least list is the least of the lists, too, that hand over even one packet.
use Rattle.std.proofs.Common.{ℕ, ◌+◌, ◌*◌, ◌≤◌, arith, Bool, List, length, map, Result, Ok, Err, subst}
use Rattle.std.proofs.lemmas.Nat.{mul-le}
use Rattle.srv6_rules.specs.Encapsulation.{header_bytes}
use Rattle.net_model.specs.Network.{Network}
use Rattle.intent_reader.specs.declared.intent.Intent.{Intent}
use Rattle.list_pack.specs.declared.types.Container.{Container}
use Rattle.list_pack.specs.declared.types.Cost.{Cost}
use Rattle.list_pack.specs.Costs.{AtMost}
use Rattle.list_pack.specs.Least.{step_of}
use Rattle.list_pack.specs.Meaning.{Means, IsPathBelow, IsRealized}
use Rattle.list_pack.specs.Paths.{cost_with}
use Rattle.list_pack.specs.PathLists.{list_of}
use Rattle.list_pack.specs.SidLists.{IsLegalList, prefixes_in}
use Rattle.list_pack.specs.LegsValue.{LegsValue}
use Rattle.list_certificate.specs.declared.certificate_types.Verdict.{Verdict}
use Rattle.list_certificate.specs.declared.certificate_types.Verdict.TheVariants.{Least, NoList, No}
use Rattle.path_compiler.specs.declared.compiled.Compiled.{Compiled}
use Rattle.path_compiler.specs.declared.compiled.CompileFault.{CompileFault}
use Rattle.path_compiler.specs.declared.compiled.CompileFault.TheVariants as faults
use Rattle.path_compiler.specs.Checked.{Says, SaysOver}
use Rattle.path_compiler.specs.Compiled.{AnswersOver, IsFound, IsLeastOver, NoneLessOver}
use Rattle.path_compiler.specs.Handing.{IsLeastOfHanding, NoneHandsOver}
use Rattle.path_compiler.specs.ListCosts.{list_cost}
use Rattle.path_compiler.proofs.ListCosting.{at_most_raised, found_costs, list_costs}

module _ (v : LegsValue) (net : Network) (Realizes Executes Hands : List Container → ℕ → Type 0)
    (means : Means v net Realizes Executes Hands) where
  -- where a list hands over even one packet, the path below it is a list that realizes, and costs what the path does
  module _ (list : List Container) (hop : ℕ) (path : IsPathBelow v list hop) where
    abbrev below_cost : Cost
    below_cost = cost_with (length list) (v.sid_cost * length path.moves) path.hops

    abbrev below_list : List Container
    below_list = list_of net (map (step_of v) path.moves)

    below_made : IsRealized net Realizes Executes (map (step_of v) path.moves) below_cost
    below_made = means.lists path.moves below_cost path.cost

    -- a cost that is at most that of each list that realizes, is so with a need one higher
    below_most : (cost : Cost)
        → ((other : List Container) (n : ℕ) → IsLegalList net other → Realizes other n → AtMost cost (list_cost v.sid_cost other n))
        → AtMost (cost_with cost.containers cost.sids (cost.hops + 1)) (list_cost v.sid_cost list hop)
    below_most cost least =
        let below = path.below in
        at_most_raised cost (cost.hops + 1) (length list) (v.sid_cost * length path.moves) (v.sid_cost * length (prefixes_in list))
        path.hops hop (mul-le v.sid_cost (length path.moves) v.sid_cost (length (prefixes_in list)) (omega arith) path.sids)
        (λ h. omega (arith, h, below))
        (subst (λ (c : Cost). AtMost cost c) (list_costs v net path.moves below_cost path.cost below_made.of_path)
        (least below_list path.hops below_made.legal below_made.realizes))

  least_of_handing : (cost : Cost)
      → ((other : List Container) (n : ℕ) → IsLegalList net other → Realizes other n → AtMost cost (list_cost v.sid_cost other n))
      → IsLeastOfHanding v.sid_cost net Hands cost
  least_of_handing cost least list hop legal hands = below_most list hop (means.handing list hop legal hands) cost least

  none_of_handing : ((other : List Container) (n : ℕ) → IsLegalList net other → ¬ Realizes other n) → NoneHandsOver net Hands
  none_of_handing none list hop legal hands =
      let path = means.handing list hop legal hands in
      let made = below_made list hop path in
      none (below_list list hop path) path.hops made.legal made.realizes

  least_over : (reduced : Bool) (c : Compiled) → IsFound v net Realizes Executes reduced c → IsLeastOver v.sid_cost net Hands reduced c
  least_over reduced c found = record {
    fewest = λ list hop legal hands.
        let path = means.handing list hop legal hands in
        let made = below_made list hop path in
        subst (λ (n : ℕ). c.header ≤ header_bytes reduced n) made.of_path.count
        (found.fewest (below_list list hop path) path.hops made.legal made.realizes);
    least =
        least_of_handing (cost_with c.containers (v.sid_cost * c.sids) c.need)
        (λ other n legal real.
        subst (λ (k : Cost). AtMost k (list_cost v.sid_cost other n)) (found_costs v net Realizes Executes reduced c found)
        (found.chosen.least other n legal real));
  }

  pub none_less : (intent : Intent) (answer : Result Compiled CompileFault) → AnswersOver v net Realizes Executes intent answer
      → NoneLessOver v.sid_cost net Hands intent.reduced answer
  none_less intent (Ok c) answers = least_over intent.reduced c answers.found
  none_less intent (Err (faults.NotFlat why)) answers = tt
  none_less intent (Err (faults.NoList s)) answers = none_of_handing answers.none
  none_less intent (Err (faults.TooLong c)) answers = least_over intent.reduced c answers.found
  none_less intent (Err (faults.HopLimit c)) answers = least_over intent.reduced c answers.found
  none_less intent (Err faults.NoMemory) answers = tt

  pub says_over : (verdict : Verdict) → Says v.sid_cost net Realizes Executes verdict → SaysOver v.sid_cost net Hands verdict
  says_over (Least containers sids hops) says = least_of_handing (cost_with containers sids hops) says.least
  says_over NoList says = none_of_handing says
  says_over (No line why) says = tt
