-- From the least path over legs to the chosen list.
use Rattle.std.proofs.Common.{◌≡◌, ℕ, ◌+◌, ◌<◌, ◌≤◌, arith, Bool, true, false, ◌==◌, eqb-true, List, [], ◌∷◌, length, map, Some, Result, Ok, Err, refl, sym, ◌∙◌, ap, subst}
use Rattle.std.specs.Prelude.{IfOk, ◌*◌, nat_lt, if◌then◌else◌}
use Rattle.std.proofs.lemmas.Bool.{ltb-true, ltb-false}
use Rattle.base.specs.declared.no_memory.NoMemory.{NoMemory}
use Rattle.srv6_rules.specs.Encapsulation.{header_bytes}
use Rattle.net_model.specs.Network.{Network}
use Rattle.net_flatness.specs.Flat.{flatness_of}
use Rattle.list_pack.specs.declared.types.Container.{Container}
use Rattle.list_pack.specs.declared.types.Cost.{Cost}
use Rattle.list_pack.specs.declared.types.PathStep.{PathStep}
use Rattle.list_pack.specs.declared.types.Solution.{Solution}
use Rattle.list_pack.specs.LegsValue.{LegsValue}
use Rattle.list_pack.specs.Costs.{Move, AtMost, start}
use Rattle.list_pack.specs.Least.{IsFirstLeast, IsPathOrNone, IsSolution, IsWithoutPath, step_of, path_before}
use Rattle.list_pack.specs.Meaning.{Means}
use Rattle.list_pack.specs.Paths.{cost_with}
use Rattle.list_pack.specs.PathLists.{list_of}
use Rattle.list_pack.specs.SidLists.{IsLegalList, prefixes_in, steps_in}
use Rattle.path_compiler.specs.declared.compiled.Compiled.{Compiled}
use Rattle.path_compiler.specs.Compiled.{IsWhole, IsChosen, IsFound, IsNoList}
use Rattle.path_compiler.specs.CompiledTerms.{IsListIn}
use Rattle.path_compiler.specs.ListCosts.{list_cost}
use Rattle.path_compiler.proofs.FirstCosts.{is_path_law, cost_read}
use Rattle.path_compiler.proofs.ListCosting.{list_costs, moves_many, steps_many, under_list}

nil_by : (path : List PathStep) → (length path == 0) ≡ true → path ≡ []
nil_by [] h = refl
nil_by (x ∷ xs) h = let none = eqb-true (length (x ∷ xs)) 0 h in absurd (omega (arith, none))

-- a list of more containers needs no fewer header bytes
bytes_by : (reduced : Bool) (few many : ℕ) → few ≤ many → header_bytes reduced few ≤ header_bytes reduced many
bytes_by false few many most = omega (arith, most)
bytes_by true few many most = by_sizes (nat_lt 1 few) refl (nat_lt 1 many) refl
  where
    by_sizes : (a : Bool) → nat_lt 1 few ≡ a → (b : Bool) → nat_lt 1 many ≡ b
        → (if a then 32 + 16 * few else 40) ≤ (if b then 32 + 16 * many else 40)
    by_sizes false is b is' = below b is'
      where
        below : (b : Bool) → nat_lt 1 many ≡ b → 40 ≤ (if b then 32 + 16 * many else 40)
        below false is = omega (arith)
        below true is = let above = ltb-true 1 many is in omega (arith, above)
    by_sizes true is true is' = omega (arith, most)
    by_sizes true is false is' =
        let above = ltb-true 1 few is in
        let under = ltb-false 1 many is' in
        absurd (omega (arith, above, under, most))

module _ (v : LegsValue) (net : Network) (Realizes Executes Hands : List Container → ℕ → Type 0)
    (means : Means v net Realizes Executes Hands) where
  module _ (moves : List Move) (c : Cost) (first : IsFirstLeast v start c moves) where
    first_list : (list other : List Container) → steps_in list ≡ map (step_of v) moves → IsWhole net Realizes Executes other c.hops
        → list_cost v.sid_cost other c.hops ≡ c → path_before (steps_in other) (steps_in list) ≡ false
    first_list list other steps whole same =
        let path = means.paths other c.hops whole.legal whole.realizes in
        let along = path.whole whole.executes in
        let many : length path.moves ≡ length (prefixes_in other) = sym (moves_many v path.moves other (sym along.0)) in
        let its : cost_with (length other) (v.sid_cost * length path.moves) path.hops ≡ c
        = ap (λ (n : ℕ). cost_with (length other) (v.sid_cost * n) path.hops) many
        ∙ ap (cost_with (length other) (v.sid_cost * length (prefixes_in other))) along.1 ∙ same in
        let before = first.first path.moves (path.cost ∙ ap Some its) in
        subst (λ (xs : List PathStep). path_before (steps_in other) xs ≡ false) (sym steps)
        (subst (λ (xs : List PathStep). path_before xs (map (step_of v) moves) ≡ false) along.0 before)

    -- the list of the first least path is the chosen one
    chosen_list : IsChosen v.sid_cost net Realizes Executes (list_of net (map (step_of v) moves)) c.hops
    chosen_list =
        let made = means.lists moves c first.cost in
        let list : List Container = list_of net (map (step_of v) moves) in
        let costs = list_costs v net moves c first.cost made.of_path in
        record {
          whole = record { legal = made.legal; realizes = made.realizes; executes = made.executes };
          least = λ other n legal real.
              subst (λ (k : Cost). AtMost k (list_cost v.sid_cost other n)) (sym costs)
              (under_list v net Realizes Executes Hands means (Some c) first.least other n legal real);
          first = λ other whole same. first_list list other made.of_path.steps whole (same ∙ costs);
        }

    found_by : (reduced : Bool) (s : Solution) (d : Compiled) → IsSolution v s → s.path ≡ map (step_of v) moves
        → IsListIn net reduced s d → IsFound v net Realizes Executes reduced d
    found_by reduced s d is path list =
        let read = cost_read v s.potentials moves c list.cost is.potentials first list.first in
        let containers : d.containers ≡ c.containers = list.containers ∙ ap (λ (x : Cost). x.containers) read in
        let need : d.need ≡ c.hops = list.need ∙ ap (λ (x : Cost). x.hops) read in
        let made = means.lists moves c first.cost in
        let its : d.list ≡ list_of net (map (step_of v) moves) = list.list ∙ ap (list_of net) path in
        let steps : s.path ≡ steps_in d.list = path ∙ sym made.of_path.steps ∙ sym (ap steps_in its) in
        record {
          chosen =
              subst (λ (n : ℕ). IsChosen v.sid_cost net Realizes Executes d.list n) (sym need)
              (subst (λ (l : List Container). IsChosen v.sid_cost net Realizes Executes l c.hops) (sym its) chosen_list);
          containers = containers ∙ sym made.of_path.count ∙ sym (ap length its);
          sids = list.sids ∙ ap length steps ∙ steps_many d.list;
          header = list.header;
          fewest = λ other n legal real.
              let most = (under_list v net Realizes Executes Hands means (Some c) first.least other n legal real).containers in
              subst (λ (bytes : ℕ). bytes ≤ header_bytes reduced (length other)) (sym list.header)
              (bytes_by reduced d.containers (length other) (omega (arith, containers, most)));
          path = ap (λ (x : Solution). x.path) list.solution ∙ steps;
          solution = subst (λ (x : Solution). IsSolution v x) (sym list.solution) is;
        }

  pub found_is : (reduced : Bool) (s : Solution) (d : Compiled) → IsSolution v s → 0 < length s.path → IsListIn net reduced s d
      → IsFound v net Realizes Executes reduced d
  found_is reduced s d is some list =
      let path = is_path_law v s.path some is.path in
      found_by path.moves path.cost path.first reduced s d is path.is_path list

  pub result_found : (reduced : Bool) (s : Solution) (r : Result Compiled NoMemory) → IsSolution v s → 0 < length s.path
      → IfOk r (IsListIn net reduced s) → IfOk r (IsFound v net Realizes Executes reduced)
  result_found reduced s (Ok d) is some list = found_is reduced s d is some list
  result_found reduced s (Err e) is some list = tt

  -- ---- no list

  none_path : (s : Solution) → IsSolution v s → s.path ≡ [] → IsWithoutPath v
  none_path s is empty = subst (λ (path : List PathStep). IsPathOrNone v path) empty is.path

  pub none_realizes : (s : Solution) → IsSolution v s → s.path ≡ [] → (list : List Container) (need : ℕ) → IsLegalList net list
      → Realizes list need → ⊥
  none_realizes s is empty list need legal real =
      let path = means.paths list need legal real in
      let some = path.cost in
      let none = none_path s is empty path.moves in
      absurd (cc)

  pub no_list : (s : Solution) (path : List PathStep) → net.hidden ≡ [] → flatness_of net ≡ Ok tt → IsSolution v s → path ≡ s.path
      → (length path == 0) ≡ true → IsNoList v net Realizes s
  no_list s path whole is_flat is e h =
      let empty : s.path ≡ [] = sym e ∙ nil_by path h in
      record { whole = whole; flat = is_flat; none = none_realizes s is empty; solution = is; no_path = empty }
