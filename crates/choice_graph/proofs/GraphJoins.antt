-- What is found over a set, by what is found at its members.
use Rattle.std.proofs.Common.{◌≡◌, ℕ, zero, suc, ◌<◌, ◌≤◌, ◌⊎◌, inl, inr, max, ◌==◌, Bool, true, if◌then◌else◌, List, [], ◌∷◌, length, map, slice_index, Option, Some, None, refl, sym, ◌∙◌, ap, subst, arith, eq-eqb, eqb-true}
use Rattle.std.specs.Option.{option_map, option_and_then}
use Rattle.std.proofs.lemmas.Bool.{cases_lt}
use Rattle.std.proofs.lemmas.List.{map-id}
use Rattle.choice_graph.specs.declared.vertices.Vertex.{Vertex}
use Rattle.choice_graph.specs.declared.vertices.Vertex.TheVariants.{Lost, Stop, Over}
use Rattle.choice_graph.specs.declared.vertices.Found.{Found}
use Rattle.choice_graph.specs.GraphWalks.{vertex_at}
use Rattle.choice_graph.specs.FoundInGraphs.{Finds, joined, found_over, found_by, lowered}
use Rattle.choice_graph.specs.FoundInGraphsTerms.{found_under, IsOver}
use Rattle.choice_graph.proofs.GraphOptions.{map_some, then_some, if_some, some_same, none_some, found_same}

-- at a vertex something is found that has an answer, and isn't above a number
pub record AgreesAt (finds : Finds) (answer most w : ℕ) : Type 0 where
  pub found : Found
  pub here : finds w ≡ Some found
  pub same : found.answer ≡ answer
  pub within : found.most ≤ most

pub record Agrees (finds : Finds) (f : Found) (h : Found) (ws : List ℕ) : Type 0 where
  pub within : f.most ≤ h.most
  pub same : f.answer ≡ h.answer
  pub each : (i : ℕ) → i < length ws → AgreesAt finds h.answer h.most (slice_index ws i)

-- a join with one more
abbrev pub joined_with : Finds → Found → List ℕ → Found → Option Found
joined_with finds f ws g = if g.answer == f.answer then joined finds (record { most = max f.most g.most; answer = f.answer }) ws else None

at_each : (finds : Finds) (answer most w : ℕ) (ws : List ℕ) → AgreesAt finds answer most w
    → ((i : ℕ) → i < length ws → AgreesAt finds answer most (slice_index ws i))
    → (i : ℕ) → i < suc (length ws) → AgreesAt finds answer most (slice_index (w ∷ ws) i)
at_each finds answer most w ws at more zero l = at
at_each finds answer most w ws at more (suc i) l = more i (omega arith)

joined_agrees : (finds : Finds) (f : Found) (ws : List ℕ) (h : Found) → joined finds f ws ≡ Some h → Agrees finds f h ws
joined_agrees finds f [] h e =
    let m : f.most ≡ h.most = ap (λ (x : Found). x.most) (some_same f h e) in
    record { within = omega arith; same = ap (λ (x : Found). x.answer) (some_same f h e); each = λ i l. absurd (omega arith) }
joined_agrees finds f (w ∷ ws) h e =
    let first = then_some (joined_with finds f ws) (finds w) h e in
    let g : Found = first.0 in
    let both = if_some (g.answer == f.answer) (joined finds (record { most = max f.most g.most; answer = f.answer }) ws) h first.2 in
    let more = joined_agrees finds (record { most = max f.most g.most; answer = f.answer }) ws h both.1 in
    let top : max f.most g.most ≤ h.most = more.within in
    let low : g.most ≤ h.most = omega arith in
    let at : AgreesAt finds h.answer h.most w
    = record { found = g; here = first.1; same = eqb-true g.answer f.answer both.0 ∙ more.same; within = low } in
    record { within = omega arith; same = more.same; each = at_each finds h.answer h.most w ws at more.each }

pub over_agrees : (finds : Finds) (set : List ℕ) (h : Found) → found_over finds set ≡ Some h
    → (i : ℕ) → i < length set → AgreesAt finds h.answer h.most (slice_index set i)
over_agrees finds [] h e i l = absurd (none_some h e)
over_agrees finds (w ∷ ws) h e i l =
    let first = then_some (λ (f : Found). joined finds f ws) (finds w) h e in
    let all = joined_agrees finds first.0 ws h first.2 in
    let at : AgreesAt finds h.answer h.most w = record { found = first.0; here = first.1; same = all.same; within = all.within } in
    at_each finds h.answer h.most w ws at all.each i l

-- the greatest number is a member's
pub record TakenAt (finds : Finds) (h : Found) (ws : List ℕ) : Type 0 where
  pub place : ℕ
  pub inside : place < length ws
  pub here : finds (slice_index ws place) ≡ Some h

joined_taken : (finds : Finds) (f : Found) (ws : List ℕ) (h : Found) → joined finds f ws ≡ Some h → (h ≡ f) ⊎ TakenAt finds h ws
joined_taken finds f [] h e = inl (sym (some_same f h e))
joined_taken finds f (w ∷ ws) h e =
    let first = then_some (joined_with finds f ws) (finds w) h e in
    let g : Found = first.0 in
    let both = if_some (g.answer == f.answer) (joined finds (record { most = max f.most g.most; answer = f.answer }) ws) h first.2 in
    by_rest g first.1 (eqb-true g.answer f.answer both.0)
    (joined_taken finds (record { most = max f.most g.most; answer = f.answer }) ws h both.1) (cases_lt f.most g.most)
  where
    by_rest : (g : Found) → finds w ≡ Some g → g.answer ≡ f.answer
        → (h ≡ record { most = max f.most g.most; answer = f.answer }) ⊎ TakenAt finds h ws → (f.most < g.most) ⊎ (g.most ≤ f.most)
        → (h ≡ f) ⊎ TakenAt finds h (w ∷ ws)
    by_rest g here same (inr t) order = inr (record { place = suc t.place; inside = (let l = t.inside in omega arith); here = t.here })
    by_rest g here same (inl e) (inl less) =
        let m : max f.most g.most ≡ g.most = omega arith in
        let hg : h ≡ g = e ∙ found_same (record { most = max f.most g.most; answer = f.answer }) g m (sym same) in
        inr (record { place = 0; inside = omega arith; here = here ∙ ap (λ (x : Found). Some x) (sym hg) })
    by_rest g here same (inl e) (inr more) =
        let m : max f.most g.most ≡ f.most = omega arith in
        inl (e ∙ found_same (record { most = max f.most g.most; answer = f.answer }) f m refl)

pub over_taken : (finds : Finds) (set : List ℕ) (h : Found) → found_over finds set ≡ Some h → TakenAt finds h set
over_taken finds [] h e = absurd (none_some h e)
over_taken finds (w ∷ ws) h e =
    let first = then_some (λ (f : Found). joined finds f ws) (finds w) h e in
    by_rest first.0 first.1 (joined_taken finds first.0 ws h first.2)
  where
    by_rest : (f : Found) → finds w ≡ Some f → (h ≡ f) ⊎ TakenAt finds h ws → TakenAt finds h (w ∷ ws)
    by_rest f here (inl e) = record { place = 0; inside = omega arith; here = here ∙ ap (λ (x : Found). Some x) (sym e) }
    by_rest f here (inr t) = record { place = suc t.place; inside = (let l = t.inside in omega arith); here = t.here }

-- what is found at a vertex has an answer
abbrev pub FoundAt : Finds → ℕ → ℕ → Type 0
FoundAt finds answer w = (g : Found) × (finds w ≡ Some g) × (g.answer ≡ answer)

joined_complete : (finds : Finds) (f : Found) (ws : List ℕ) (answer : ℕ) → f.answer ≡ answer
    → ((i : ℕ) → i < length ws → FoundAt finds answer (slice_index ws i))
    → (h : Found) × (joined finds f ws ≡ Some h) × (h.answer ≡ answer)
joined_complete finds f [] answer e all = (f, refl, e)
joined_complete finds f (w ∷ ws) answer e all =
    let first = all 0 (omega arith) in
    let g : Found = first.0 in
    let same : (g.answer == f.answer) ≡ true = eq-eqb g.answer f.answer (first.2 ∙ sym e) in
    let more = joined_complete finds (record { most = max f.most g.most; answer = f.answer }) ws answer e
    (λ i l. all (suc i) (omega arith)) in
    let open_one : joined finds f (w ∷ ws) ≡ joined_with finds f ws g = ap (option_and_then (joined_with finds f ws)) first.1 in
    let open_if : joined_with finds f ws g ≡ joined finds (record { most = max f.most g.most; answer = f.answer }) ws
    = ap (λ (b : Bool). if b then joined finds (record { most = max f.most g.most; answer = f.answer }) ws else None) same in
    (more.0, open_one ∙ open_if ∙ more.1, more.2)

pub over_complete : (finds : Finds) (set : List ℕ) (answer : ℕ) → 0 < length set
    → ((i : ℕ) → i < length set → FoundAt finds answer (slice_index set i))
    → (h : Found) × (found_over finds set ≡ Some h) × (h.answer ≡ answer)
over_complete finds [] answer some all = absurd (omega arith)
over_complete finds (w ∷ ws) answer some all =
    let first = all 0 (omega arith) in
    let more = joined_complete finds first.0 ws answer first.2 (λ i l. all (suc i) (omega arith)) in
    let open_one : found_over finds (w ∷ ws) ≡ joined finds first.0 ws = ap (option_and_then (λ (f : Found). joined finds f ws)) first.1 in
    (more.0, open_one ∙ more.1, more.2)

-- what is found at vertices is found at those under them
abbrev pub IsUnder : (ℕ → ℕ) → (ℕ → ℕ) → Finds → Finds → Type 0
IsUnder under answer_under finds below = (w : ℕ) (g : Found) → finds w ≡ Some g → below (under w) ≡ Some (found_under answer_under g)

joined_under : (under answer_under : ℕ → ℕ) (finds below : Finds) → IsUnder under answer_under finds below
    → (f : Found) (ws : List ℕ) (h : Found) → joined finds f ws ≡ Some h
    → joined below (found_under answer_under f) (map under ws) ≡ Some (found_under answer_under h)
joined_under under au finds below all f [] h e = ap (option_map (found_under au)) e
joined_under under au finds below all f (w ∷ ws) h e =
    let first = then_some (joined_with finds f ws) (finds w) h e in
    let g : Found = first.0 in
    let both = if_some (g.answer == f.answer) (joined finds (record { most = max f.most g.most; answer = f.answer }) ws) h first.2 in
    let more = joined_under under au finds below all (record { most = max f.most g.most; answer = f.answer }) ws h both.1 in
    let fu : Found = found_under au f in
    let gu : Found = found_under au g in
    let same : (gu.answer == fu.answer) ≡ true = eq-eqb (au g.answer) (au f.answer) (ap au (eqb-true g.answer f.answer both.0)) in
    let open_one : joined below fu (under w ∷ map under ws) ≡ joined_with below fu (map under ws) gu
    = ap (option_and_then (joined_with below fu (map under ws))) (all w g first.1) in
    let open_if : joined_with below fu (map under ws) gu ≡ joined below (record { most = max f.most g.most; answer = au f.answer })
    (map under ws)
    = ap (λ (b : Bool). if b then joined below (record { most = max f.most g.most; answer = au f.answer }) (map under ws) else None) same in
    open_one ∙ open_if ∙ more

over_under : (under answer_under : ℕ → ℕ) (finds below : Finds) → IsUnder under answer_under finds below
    → (set : List ℕ) (h : Found) → found_over finds set ≡ Some h → found_over below (map under set) ≡ Some (found_under answer_under h)
over_under under au finds below all [] h e = absurd (none_some h e)
over_under under au finds below all (w ∷ ws) h e =
    let first = then_some (λ (f : Found). joined finds f ws) (finds w) h e in
    let open_one : found_over below (under w ∷ map under ws) ≡ joined below (found_under au first.0) (map under ws)
    = ap (option_and_then (λ (f : Found). joined below f (map under ws))) (all w first.0 first.1) in
    open_one ∙ joined_under under au finds below all first.0 ws h first.2

pub by_under : (graph : List Vertex) (under answer_under : ℕ → ℕ) (finds below : Finds) → IsUnder under answer_under finds below
    → ((w : ℕ) → vertex_at graph w ≡ Lost → finds w ≡ None)
    → (lowers : Bool) (vertex under_vertex : Vertex) (f : Found) → IsOver graph under answer_under vertex under_vertex
    → found_by lowers finds vertex ≡ Some f → found_by lowers below under_vertex ≡ Some (found_under answer_under f)
by_under graph under au finds below all none lowers Lost us f is e = absurd (none_some f e)
by_under graph under au finds below all none lowers (Stop answer) us f is e =
    ap (found_by lowers below) is ∙ ap (option_map (found_under au)) e
by_under graph under au finds below all none lowers (Over set) us f (inl lost) e =
    let m = map_some (lowered lowers) (found_over finds set) f e in
    let at = over_agrees finds set m.0 m.1 lost.0 lost.1 in
    absurd (none_some at.found (sym (none (slice_index set lost.0) lost.2) ∙ at.here))
by_under graph under au finds below all none lowers (Over set) us f (inr is) e =
    let m = map_some (lowered lowers) (found_over finds set) f e in
    let one = over_under under au finds below all set m.0 m.1 in
    ap (found_by lowers below) is ∙ ap (option_map (lowered lowers)) one ∙ ap (λ (x : Found). Some (found_under au x)) m.2

-- what is found over a set is found too where more is known
over_grows : (finds more : Finds) → ((w : ℕ) (g : Found) → finds w ≡ Some g → more w ≡ Some g)
    → (set : List ℕ) (h : Found) → found_over finds set ≡ Some h → found_over more set ≡ Some h
over_grows finds more all set h e =
    subst (λ (s : List ℕ). found_over more s ≡ Some h) (map-id set) (over_under (λ w. w) (λ a. a) finds more all set h e)

pub by_grows : (finds more : Finds) → ((w : ℕ) (g : Found) → finds w ≡ Some g → more w ≡ Some g)
    → (lowers : Bool) (vertex : Vertex) (f : Found) → found_by lowers finds vertex ≡ Some f → found_by lowers more vertex ≡ Some f
by_grows finds more all lowers Lost f e = e
by_grows finds more all lowers (Stop answer) f e = e
by_grows finds more all lowers (Over set) f e =
    let m = map_some (lowered lowers) (found_over finds set) f e in
    ap (option_map (lowered lowers)) (over_grows finds more all set m.0 m.1) ∙ ap (λ (x : Found). Some x) m.2
