-- What the list of a path costs, and that no list which realizes costs less than the least path.
use Rattle.std.proofs.Common.{◌≡◌, ℕ, ◌*◌, ◌≤◌, arith, Bool, List, length, map, Option, Some, None, sym, ◌∙◌, ap, subst}
use Rattle.std.proofs.lemmas.List.{length-map}
use Rattle.std.proofs.lemmas.Nat.{mul-le}
use Rattle.net_model.specs.Network.{Network}
use Rattle.list_pack.specs.declared.types.Container.{Container}
use Rattle.list_pack.specs.declared.types.Cost.{Cost}
use Rattle.list_pack.specs.declared.types.PathStep.{PathStep}
use Rattle.list_pack.specs.LegsValue.{LegsValue}
use Rattle.list_pack.specs.Costs.{Move, AtMost, cost_of, Under, start}
use Rattle.list_pack.specs.Least.{step_of}
use Rattle.list_pack.specs.Meaning.{Means}
use Rattle.list_pack.specs.Paths.{cost_with}
use Rattle.list_pack.specs.PathLists.{list_of, IsListOfPath}
use Rattle.list_pack.specs.SidLists.{IsLegalList, prefixes_in, steps_in}
use Rattle.list_pack.proofs.PublicLaws.{split_of, steps_prefixes}
use Rattle.path_compiler.specs.declared.compiled.Compiled.{Compiled}
use Rattle.path_compiler.specs.Compiled.{IsFound}
use Rattle.path_compiler.specs.ListCosts.{list_cost}

-- a list has as many steps as prefixes
pub steps_many : (list : List Container) → length (steps_in list) ≡ length (prefixes_in list)
steps_many list =
    sym (length-map (steps_in list) (λ (p : PathStep). p.prefix)) ∙ ap length (steps_prefixes list)

-- a path has as many moves as a list of its steps has prefixes
pub moves_many : (v : LegsValue) (moves : List Move) (list : List Container) → steps_in list ≡ map (step_of v) moves
    → length (prefixes_in list) ≡ length moves
moves_many v moves list steps =
    sym (steps_many list) ∙ ap length steps ∙ length-map moves (step_of v)

-- the list of a path costs what the path does
pub list_costs : (v : LegsValue) (net : Network) (moves : List Move) (c : Cost) → cost_of v start moves ≡ Some c
    → IsListOfPath net (map (step_of v) moves) c.containers
    → list_cost v.sid_cost (list_of net (map (step_of v) moves)) c.hops ≡ c
list_costs v net moves c cost list =
    let many = moves_many v moves (list_of net (map (step_of v) moves)) list.steps in
    let sids : v.sid_cost * length (prefixes_in (list_of net (map (step_of v) moves))) ≡ c.sids
    = ap (λ (n : ℕ). v.sid_cost * n) many ∙ sym (split_of v start moves c cost).sids in
    ap (λ (n : ℕ). cost_with n (v.sid_cost * length (prefixes_in (list_of net (map (step_of v) moves)))) c.hops) list.count
    ∙ ap (λ (n : ℕ). cost_with c.containers n c.hops) sids

-- a cost that is at most another is so too where the other's SIDs cost more, and its hops are as many
pub at_most_raised : (a : Cost) (m containers few many hops need : ℕ) → few ≤ many → (a.hops ≤ hops → m ≤ need)
    → AtMost a (cost_with containers few hops) → AtMost (cost_with a.containers a.sids m) (cost_with containers many need)
at_most_raised a m containers few many hops need more raised most =
    record {
      containers = most.containers;
      sids = λ same. let below = most.sids same in omega (arith, below, more);
      hops = λ same also.
          let below = most.sids same in
          raised (most.hops same (omega (arith, below, more, also)));
    }

-- a list that is found costs what it is said to
pub found_costs : (v : LegsValue) (net : Network) (Realizes Executes : List Container → ℕ → Type 0) (reduced : Bool) (c : Compiled)
    → IsFound v net Realizes Executes reduced c
    → list_cost v.sid_cost c.list c.need ≡ cost_with c.containers (v.sid_cost * c.sids) c.need
found_costs v net Realizes Executes reduced c found =
    ap (λ (n : ℕ). cost_with n (v.sid_cost * length (prefixes_in c.list)) c.need) (sym found.containers)
    ∙ ap (λ (n : ℕ). cost_with c.containers (v.sid_cost * n) c.need) (sym found.sids)

module _ (v : LegsValue) (net : Network) (Realizes Executes Hands : List Container → ℕ → Type 0)
    (means : Means v net Realizes Executes Hands) where
  -- a list that realizes costs no less than the least path
  pub under_list : (o : Option Cost) → ((moves : List Move) → Under o (cost_of v start moves)) → (list : List Container) (need : ℕ)
      → IsLegalList net list → Realizes list need → Under o (Some (list_cost v.sid_cost list need))
  under_list o least list need legal real =
      let path = means.paths list need legal real in
      by o path.hops (length path.moves) (subst (λ (p : Option Cost). Under o p) path.cost (least path.moves)) path.sids path.within
    where
      by : (o : Option Cost) (hops few : ℕ) → Under o (Some (cost_with (length list) (v.sid_cost * few) hops))
          → few ≤ length (prefixes_in list) → hops ≤ need → Under o (Some (list_cost v.sid_cost list need))
      by None hops few under sids within = absurd under
      by (Some c) hops few under sids within =
          at_most_raised c c.hops (length list) (v.sid_cost * few) (v.sid_cost * length (prefixes_in list)) hops need
          (mul-le v.sid_cost few v.sid_cost (length (prefixes_in list)) (omega arith) sids) (λ h. omega (arith, h, within)) under
