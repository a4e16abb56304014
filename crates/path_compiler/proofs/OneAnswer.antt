-- An intent has one answer of the compiler in a network.
use Rattle.std.proofs.Common.{◌≡◌, ◌≢◌, ℕ, ◌*◌, ◌<◌, ◌≤◌, arith, Bool, List, length, Result, Ok, Err, refl, sym, ◌∙◌, ap}
use Rattle.srv6_rules.specs.Encapsulation.{header_bytes}
use Rattle.net_model.specs.Network.{Network}
use Rattle.net_flatness.specs.Flat.{flatness_of}
use Rattle.net_flatness.specs.declared.not_flat.NotFlat.{NotFlat}
use Rattle.intent_reader.specs.declared.intent.Intent.{Intent}
use Rattle.list_pack.specs.declared.types.Container.{Container}
use Rattle.list_pack.specs.declared.types.Solution.{Solution}
use Rattle.list_pack.specs.LegsValue.{LegsValue}
use Rattle.list_pack.specs.PathLists.{list_of}
use Rattle.list_pack.specs.SidLists.{prefixes_in, steps_in}
use Rattle.list_pack.proofs.PublicLaws.{solutions_same, steps_list}
use Rattle.path_compiler.specs.declared.compiled.Compiled.{Compiled}
use Rattle.path_compiler.specs.declared.compiled.CompileFault.{CompileFault}
use Rattle.path_compiler.specs.declared.compiled.CompileFault.TheVariants as faults
use Rattle.path_compiler.specs.Compiled.{AnswersOver, IsChosen, IsFound, IsNoList}

module _ (v : LegsValue) (net : Network) (Realizes Executes : List Container → ℕ → Type 0) where
  -- one chosen list has one need
  needs_most : (list other : List Container) (need n : ℕ) → IsChosen v.sid_cost net Realizes Executes list need
      → IsChosen v.sid_cost net Realizes Executes other n → list ≡ other → need ≤ n
  needs_most list other need n one two same =
      (one.least other n two.whole.legal two.whole.realizes).hops (ap length same)
      (ap (λ (l : List Container). v.sid_cost * length (prefixes_in l)) same)

  module _ (reduced : Bool) where
    abbrev Found : Compiled → Type 0
    Found c = IsFound v net Realizes Executes reduced c

    solution_same : (c d : Compiled) → Found c → Found d → c.solution ≡ d.solution
    solution_same c d one other = solutions_same v c.solution d.solution one.solution other.solution

    list_same : (c d : Compiled) → Found c → Found d → c.list ≡ d.list
    list_same c d one other =
        let path : c.solution.path ≡ d.solution.path = ap (λ (s : Solution). s.path) (solution_same c d one other) in
        let steps : steps_in c.list ≡ steps_in d.list = sym one.path ∙ path ∙ other.path in
        sym (steps_list net c.list one.chosen.whole.legal.rules) ∙ ap (list_of net) steps
        ∙ steps_list net d.list other.chosen.whole.legal.rules

    count_same : (c d : Compiled) → Found c → Found d → c.containers ≡ d.containers
    count_same c d one other = one.containers ∙ ap length (list_same c d one other) ∙ sym other.containers

    sids_same : (c d : Compiled) → Found c → Found d → c.sids ≡ d.sids
    sids_same c d one other =
        one.sids ∙ ap (λ (l : List Container). length (prefixes_in l)) (list_same c d one other) ∙ sym other.sids

    need_same : (c d : Compiled) → Found c → Found d → c.need ≡ d.need
    need_same c d one other =
        let same = list_same c d one other in
        let most = needs_most c.list d.list c.need d.need one.chosen other.chosen same in
        let least = needs_most d.list c.list d.need c.need other.chosen one.chosen (sym same) in
        omega (arith, most, least)

    found_same : (c d : Compiled) → Found c → Found d → c ≡ d
    found_same c d one other =
        let header : c.header ≡ d.header = one.header ∙ ap (header_bytes reduced) (count_same c d one other) ∙ sym other.header in
        ap (λ (x : List Container). record c { list = x }) (list_same c d one other)
        ∙ ap (λ (x : ℕ). record c { list = d.list; containers = x }) (count_same c d one other)
        ∙ ap (λ (x : ℕ). record c { list = d.list; containers = d.containers; sids = x }) (sids_same c d one other)
        ∙ ap (λ (x : ℕ). record c { list = d.list; containers = d.containers; sids = d.sids; header = x }) header
        ∙ ap (λ (x : ℕ). record d { need = x; solution = c.solution }) (need_same c d one other)
        ∙ ap (λ (x : Solution). record d { solution = x }) (solution_same c d one other)

  -- a list is not there and there
  none_found : (reduced : Bool) (s : Solution) (c : Compiled) → IsNoList v net Realizes s
      → IsFound v net Realizes Executes reduced c → ⊥
  none_found reduced s c none found = none.none c.list c.need found.chosen.whole.legal found.chosen.whole.realizes

  why_same : (why other : NotFlat) → flatness_of net ≡ Err why → flatness_of net ≡ Err other → why ≡ other
  why_same why other one two = cc

  not_flat_law : (why : NotFlat) → flatness_of net ≡ Err why → flatness_of net ≡ Ok tt → ⊥
  not_flat_law why is flat = absurd (cc)

  module _ (intent : Intent) where
    abbrev Answers : Result Compiled CompileFault → Type 0
    Answers answer = AnswersOver v net Realizes Executes intent answer

    -- lists that are found, where the bounds that they keep or don't are not the same
    short_long : (c d : Compiled) → Found intent.reduced c → Found intent.reduced d → c.containers ≤ intent.max_containers
        → intent.max_containers < d.containers → ⊥
    short_long c d one other short long =
        let same = count_same intent.reduced c d one other in absurd (omega (arith, same, short, long))

    within_over : (c d : Compiled) → Found intent.reduced c → Found intent.reduced d → c.need < intent.hop_limit
        → intent.hop_limit ≤ d.need → ⊥
    within_over c d one other within over =
        let same = need_same intent.reduced c d one other in absurd (omega (arith, same, within, over))

    -- the answer is one, but for want of memory
    pub answers_same : (a b : Result Compiled CompileFault) → Answers a → Answers b → a ≢ Err faults.NoMemory
        → b ≢ Err faults.NoMemory → a ≡ b
    answers_same (Ok c) (Ok d) one two some also =
        ap (λ (x : Compiled). Ok x) (found_same intent.reduced c d one.found two.found)
    answers_same (Ok c) (Err (faults.NotFlat other)) one two some also =
        absurd (not_flat_law other two one.flat)
    answers_same (Ok c) (Err (faults.NoList t)) one two some also =
        absurd (none_found intent.reduced t c two one.found)
    answers_same (Ok c) (Err (faults.TooLong d)) one two some also =
        absurd (short_long c d one.found two.found one.short two.long)
    answers_same (Ok c) (Err (faults.HopLimit d)) one two some also =
        absurd (within_over c d one.found two.found one.within two.over)
    answers_same (Ok c) (Err faults.NoMemory) one two some also =
        absurd (also refl)
    answers_same (Err (faults.NotFlat why)) (Ok d) one two some also =
        absurd (not_flat_law why one two.flat)
    answers_same (Err (faults.NotFlat why)) (Err (faults.NotFlat other)) one two some also =
        ap (λ (x : NotFlat). Err (faults.NotFlat x)) (why_same why other one two)
    answers_same (Err (faults.NotFlat why)) (Err (faults.NoList t)) one two some also =
        absurd (not_flat_law why one two.flat)
    answers_same (Err (faults.NotFlat why)) (Err (faults.TooLong d)) one two some also =
        absurd (not_flat_law why one two.flat)
    answers_same (Err (faults.NotFlat why)) (Err (faults.HopLimit d)) one two some also =
        absurd (not_flat_law why one two.flat)
    answers_same (Err (faults.NotFlat why)) (Err faults.NoMemory) one two some also =
        absurd (also refl)
    answers_same (Err (faults.NoList s)) (Ok d) one two some also =
        absurd (none_found intent.reduced s d one two.found)
    answers_same (Err (faults.NoList s)) (Err (faults.NotFlat other)) one two some also =
        absurd (not_flat_law other two one.flat)
    answers_same (Err (faults.NoList s)) (Err (faults.NoList t)) one two some also =
        ap (λ (x : Solution). Err (faults.NoList x)) (solutions_same v s t one.solution two.solution)
    answers_same (Err (faults.NoList s)) (Err (faults.TooLong d)) one two some also =
        absurd (none_found intent.reduced s d one two.found)
    answers_same (Err (faults.NoList s)) (Err (faults.HopLimit d)) one two some also =
        absurd (none_found intent.reduced s d one two.found)
    answers_same (Err (faults.NoList s)) (Err faults.NoMemory) one two some also =
        absurd (also refl)
    answers_same (Err (faults.TooLong c)) (Ok d) one two some also =
        absurd (short_long d c two.found one.found two.short one.long)
    answers_same (Err (faults.TooLong c)) (Err (faults.NotFlat other)) one two some also =
        absurd (not_flat_law other two one.flat)
    answers_same (Err (faults.TooLong c)) (Err (faults.NoList t)) one two some also =
        absurd (none_found intent.reduced t c two one.found)
    answers_same (Err (faults.TooLong c)) (Err (faults.TooLong d)) one two some also =
        ap (λ (x : Compiled). Err (faults.TooLong x)) (found_same intent.reduced c d one.found two.found)
    answers_same (Err (faults.TooLong c)) (Err (faults.HopLimit d)) one two some also =
        absurd (short_long d c two.found one.found two.short one.long)
    answers_same (Err (faults.TooLong c)) (Err faults.NoMemory) one two some also =
        absurd (also refl)
    answers_same (Err (faults.HopLimit c)) (Ok d) one two some also =
        absurd (within_over d c two.found one.found two.within one.over)
    answers_same (Err (faults.HopLimit c)) (Err (faults.NotFlat other)) one two some also =
        absurd (not_flat_law other two one.flat)
    answers_same (Err (faults.HopLimit c)) (Err (faults.NoList t)) one two some also =
        absurd (none_found intent.reduced t c two one.found)
    answers_same (Err (faults.HopLimit c)) (Err (faults.TooLong d)) one two some also =
        absurd (short_long c d one.found two.found one.short two.long)
    answers_same (Err (faults.HopLimit c)) (Err (faults.HopLimit d)) one two some also =
        ap (λ (x : Compiled). Err (faults.HopLimit x)) (found_same intent.reduced c d one.found two.found)
    answers_same (Err (faults.HopLimit c)) (Err faults.NoMemory) one two some also =
        absurd (also refl)
    answers_same (Err faults.NoMemory) (Ok d) one two some also =
        absurd (some refl)
    answers_same (Err faults.NoMemory) (Err (faults.NotFlat other)) one two some also =
        absurd (some refl)
    answers_same (Err faults.NoMemory) (Err (faults.NoList t)) one two some also =
        absurd (some refl)
    answers_same (Err faults.NoMemory) (Err (faults.TooLong d)) one two some also =
        absurd (some refl)
    answers_same (Err faults.NoMemory) (Err (faults.HopLimit d)) one two some also =
        absurd (some refl)
    answers_same (Err faults.NoMemory) (Err faults.NoMemory) one two some also =
        absurd (some refl)
