-- How deep one has to look: no deeper than there are vertices.
use Rattle.std.proofs.Common.{◌≡◌, ℕ, zero, suc, ◌+◌, ◌<◌, ◌≤◌, ◌⊎◌, inl, inr, true, List, length, slice_index, Option, Some, None, refl, sym, ◌∙◌, ap, subst, arith}
use Rattle.std.proofs.lemmas.Bool.{cases_lt}
use Rattle.std.proofs.lemmas.Option.{slice_get_past}
use Rattle.choice_graph.specs.declared.vertices.Vertex.{Vertex}
use Rattle.choice_graph.specs.declared.vertices.Vertex.TheVariants.{Lost, Stop, Over}
use Rattle.choice_graph.specs.declared.vertices.Found.{Found}
use Rattle.choice_graph.specs.GraphWalks.{vertex_of, vertex_at}
use Rattle.choice_graph.specs.FoundInGraphs.{Finds, found_over, found_by, found_in, found_at, lowered}
use Rattle.choice_graph.specs.FoundInGraphsTerms.{found_under, StandsOver}
use Rattle.choice_graph.proofs.GraphOptions.{map_some, some_same, none_some, option_same}
use Rattle.choice_graph.proofs.GraphJoins.{over_taken, by_grows, by_under}

-- ---- counting what is known

abbrev pub one : Option Found → ℕ
one None = 0
one (Some f) = 1

abbrev pub known : Finds → ℕ → ℕ
known finds zero = 0
known finds (suc k) = known finds k + one (finds k)

one_le : (o : Option Found) → one o ≤ 1
one_le None = omega arith
one_le (Some f) = omega arith

one_some : (o : Option Found) → 1 ≤ one o → (f : Found) × (o ≡ Some f)
one_some None h = absurd (omega arith)
one_some (Some f) h = (f, refl)

one_grows : (o p : Option Found) → ((f : Found) → o ≡ Some f → p ≡ Some f) → one o ≤ one p
one_grows None p all = omega arith
one_grows (Some f) p all = let e : one p ≡ 1 = ap one (all f refl) in omega arith

known_le : (finds : Finds) (k : ℕ) → known finds k ≤ k
known_le finds zero = omega arith
known_le finds (suc k) = let a = known_le finds k in let b = one_le (finds k) in omega arith

abbrev pub Grows : Finds → Finds → Type 0
Grows finds more = (w : ℕ) (g : Found) → finds w ≡ Some g → more w ≡ Some g

known_grows : (finds more : Finds) → Grows finds more → (k : ℕ) → known finds k ≤ known more k
known_grows finds more all zero = omega arith
known_grows finds more all (suc k) =
    let a = known_grows finds more all k in let b = one_grows (finds k) (more k) (all k) in omega arith

known_full : (finds : Finds) (k : ℕ) → k ≤ known finds k → (v : ℕ) → v < k → (f : Found) × (finds v ≡ Some f)
known_full finds zero h v l = absurd (omega arith)
known_full finds (suc k) h v l =
    let a = known_le finds k in let b = one_le (finds k) in
    by_place (cases_lt v k) (λ full less. known_full finds k full v less) (omega arith) (omega arith)
  where
    by_place : (v < k) ⊎ (k ≤ v) → (k ≤ known finds k → v < k → (f : Found) × (finds v ≡ Some f)) → k ≤ known finds k → 1 ≤ one (finds k)
        → (f : Found) × (finds v ≡ Some f)
    by_place (inl less) below full some = below full less
    by_place (inr more) below full some =
        let e : v ≡ k = omega arith in
        let s = one_some (finds k) some in (s.0, ap finds e ∙ s.1)

-- where no more vertices are known, nothing more is
known_same : (finds more : Finds) → Grows finds more → (k : ℕ) → known more k ≤ known finds k
    → (v : ℕ) → v < k → (f : Found) → more v ≡ Some f → finds v ≡ Some f
known_same finds more all zero h v l f e = absurd (omega arith)
known_same finds more all (suc k) h v l f e =
    let a = known_grows finds more all k in let b = one_grows (finds k) (more k) (all k) in
    by_place (cases_lt v k) (λ full less. known_same finds more all k full v less f e) (omega arith) (omega arith)
  where
    by_place : (v < k) ⊎ (k ≤ v) → (known more k ≤ known finds k → v < k → finds v ≡ Some f) → known more k ≤ known finds k
        → one (more k) ≤ one (finds k) → finds v ≡ Some f
    by_place (inl less) below full some = below full less
    by_place (inr high) below full some =
        let at : v ≡ k = omega arith in
        let m : more k ≡ Some f = ap more (sym at) ∙ e in
        let o : one (more k) ≡ 1 = ap one m in
        let s = one_some (finds k) (omega arith) in
        let g : s.0 ≡ f = some_same s.0 f (sym (all k s.0 s.1) ∙ m) in
        ap finds at ∙ s.1 ∙ ap (λ (x : Found). Some x) g

-- ---- depths

module _ (vertices : List Vertex) where
  pub grows : (depth : ℕ) → Grows (found_in vertices depth) (found_in vertices (suc depth))
  grows zero v f e = absurd (none_some f e)
  grows (suc depth) v f e = by_grows (found_in vertices depth) (found_in vertices (suc depth)) (grows depth) true (vertex_at vertices v) f e

  pub grows_to : (high low : ℕ) → low ≤ high → Grows (found_in vertices low) (found_in vertices high)
  grows_to zero low h v f e = let at : low ≡ 0 = omega arith in subst (λ (d : ℕ). found_in vertices d v ≡ Some f) at e
  grows_to (suc high) low h v f e = by_order (cases_lt high low) (λ more. grows_to high low more v f e)
    where
      by_order : (high < low) ⊎ (low ≤ high) → (low ≤ high → found_in vertices high v ≡ Some f) → found_in vertices (suc high) v ≡ Some f
      by_order (inl less) below = let at : low ≡ suc high = omega arith in subst (λ (d : ℕ). found_in vertices d v ≡ Some f) at e
      by_order (inr more) below = grows high v f (below more)

  abbrev pub IsStable : ℕ → Type 0
  IsStable depth = Grows (found_in vertices (suc depth)) (found_in vertices depth)

  stable_on : (depth : ℕ) → IsStable depth → IsStable (suc depth)
  stable_on depth st v f e = by_grows (found_in vertices (suc depth)) (found_in vertices depth) st true (vertex_at vertices v) f e

  stable_at : (high low : ℕ) → low ≤ high → IsStable low → IsStable high
  stable_at zero low h st = let at : low ≡ 0 = omega arith in subst IsStable at st
  stable_at (suc high) low h st = by_order (cases_lt high low) (λ more. stable_at high low more st)
    where
      by_order : (high < low) ⊎ (low ≤ high) → (low ≤ high → IsStable high) → IsStable (suc high)
      by_order (inl less) below = let at : low ≡ suc high = omega arith in subst IsStable at st
      by_order (inr more) below = stable_on high (below more)

  stable_down : (high low : ℕ) → low ≤ high → IsStable low → Grows (found_in vertices high) (found_in vertices low)
  stable_down zero low h st v f e = let at : 0 ≡ low = omega arith in subst (λ (d : ℕ). found_in vertices d v ≡ Some f) at e
  stable_down (suc high) low h st v f e =
      by_order (cases_lt high low) (λ more. stable_down high low more st v f (stable_at high low more st v f e))
    where
      by_order : (high < low) ⊎ (low ≤ high) → (low ≤ high → found_in vertices low v ≡ Some f) → found_in vertices low v ≡ Some f
      by_order (inl less) below = let at : suc high ≡ low = omega arith in subst (λ (d : ℕ). found_in vertices d v ≡ Some f) at e
      by_order (inr more) below = below more

  -- nothing is found at a number that the graph doesn't have
  past : (depth v : ℕ) (f : Found) → length vertices ≤ v → found_in vertices depth v ≡ Some f → ⊥
  past zero v f h e = none_some f e
  past (suc depth) v f h e =
      let lost : vertex_at vertices v ≡ Lost = ap vertex_of (slice_get_past vertices v h) in
      none_some f (ap (found_by true (found_in vertices depth)) (sym lost) ∙ e)

  -- each look that is deeper by one finds one vertex more, or none for ever
  deepens : (depth : ℕ) → (depth ≤ known (found_in vertices depth) (length vertices)) ⊎ IsStable depth
  deepens zero = inl (omega arith)
  deepens (suc depth) = by_last (deepens depth)
      (cases_lt (known (found_in vertices depth) (length vertices)) (known (found_in vertices (suc depth)) (length vertices)))
    where
      stays : known (found_in vertices (suc depth)) (length vertices) ≤ known (found_in vertices depth) (length vertices) → IsStable depth
      stays few v f e = by_place (cases_lt v (length vertices))
        where
          by_place : (v < length vertices) ⊎ (length vertices ≤ v) → found_in vertices depth v ≡ Some f
          by_place (inl less) = known_same (found_in vertices depth) (found_in vertices (suc depth)) (grows depth) (length vertices) few v less f e
          by_place (inr high) = absurd (past (suc depth) v f high e)

      by_last : (depth ≤ known (found_in vertices depth) (length vertices)) ⊎ IsStable depth
          → (known (found_in vertices depth) (length vertices) < known (found_in vertices (suc depth)) (length vertices))
          ⊎ (known (found_in vertices (suc depth)) (length vertices) ≤ known (found_in vertices depth) (length vertices))
          → (suc depth ≤ known (found_in vertices (suc depth)) (length vertices)) ⊎ IsStable (suc depth)
      by_last (inr st) order = inr (stable_on depth st)
      by_last (inl many) (inl less) = inl (omega arith)
      by_last (inl many) (inr few) = inr (stable_on depth (stays few))

  tunnel_enough : IsStable (length vertices)
  tunnel_enough = by_count (deepens (length vertices))
    where
      by_count : (length vertices ≤ known (found_in vertices (length vertices)) (length vertices)) ⊎ IsStable (length vertices) → IsStable (length vertices)
      by_count (inr st) = st
      by_count (inl full) = all
        where
          all : IsStable (length vertices)
          all v f e = by_place (cases_lt v (length vertices))
            where
              by_place : (v < length vertices) ⊎ (length vertices ≤ v) → found_in vertices (length vertices) v ≡ Some f
              by_place (inr high) = absurd (past (suc (length vertices)) v f high e)
              by_place (inl less) =
                  let g = known_full (found_in vertices (length vertices)) (length vertices) full v less in
                  let same : g.0 ≡ f = some_same g.0 f (sym (grows (length vertices) v g.0 g.1) ∙ e) in
                  g.1 ∙ ap (λ (x : Found). Some x) same

  pub found_deep : (depth : ℕ) → Grows (found_in vertices depth) (found_at vertices)
  found_deep depth v f e = by_order (cases_lt (length vertices) depth)
    where
      by_order : (length vertices < depth) ⊎ (depth ≤ length vertices) → found_at vertices v ≡ Some f
      by_order (inl more) = stable_down depth (length vertices) (omega arith) tunnel_enough v f e
      by_order (inr less) = grows_to (length vertices) depth less v f e

  -- what is found at a vertex is made of what is found at its next ones
  pub found_fixed : (v : ℕ) → found_by true (found_at vertices) (vertex_at vertices v) ≡ found_at vertices v
  found_fixed v = option_same (found_in vertices (suc (length vertices)) v) (found_in vertices (length vertices) v)
      (tunnel_enough v) (grows (length vertices) v)

  pub deeper_same : (depth v : ℕ) → length vertices ≤ depth → found_in vertices depth v ≡ found_at vertices v
  deeper_same depth v h = option_same (found_in vertices depth v) (found_at vertices v) (found_deep depth v) (grows_to depth (length vertices) h v)

  pub fewer : (depth v : ℕ) (f : Found) → found_in vertices depth v ≡ Some f → f.most < depth
  fewer zero v f e = absurd (none_some f e)
  fewer (suc depth) v f e = by_vertex (fewer depth) (vertex_at vertices v) e
    where
      by_vertex : ((w : ℕ) (g : Found) → found_in vertices depth w ≡ Some g → g.most < depth) → (vertex : Vertex)
          → found_by true (found_in vertices depth) vertex ≡ Some f → f.most < suc depth
      by_vertex below Lost e = absurd (none_some f e)
      by_vertex below (Stop answer) e =
          let m : 0 ≡ f.most = ap (λ (x : Found). x.most) (some_same (record { most = 0; answer = answer }) f e) in omega arith
      by_vertex below (Over set) e =
          let m = map_some (lowered true) (found_over (found_in vertices depth) set) f e in
          let t = over_taken (found_in vertices depth) set m.0 m.1 in
          let l = below (slice_index set t.place) m.0 t.here in
          let k : m.0.most + 1 ≡ f.most = ap (λ (x : Found). x.most) m.2 in
          omega arith

-- ---- one graph over another

pub found_lost : (vertices : List Vertex) (depth w : ℕ) → vertex_at vertices w ≡ Lost → found_in vertices depth w ≡ None
found_lost vertices zero w lost = refl
found_lost vertices (suc depth) w lost = ap (found_by true (found_in vertices depth)) lost

module _ (under answer_under : ℕ → ℕ) (vertices nodes : List Vertex) (stands : StandsOver under answer_under vertices nodes) where
  under_in : (depth v : ℕ) (f : Found) → found_in vertices depth v ≡ Some f
      → found_in nodes depth (under v) ≡ Some (found_under answer_under f)
  under_in zero v f e = absurd (none_some f e)
  under_in (suc depth) v f e =
      by_under vertices under answer_under (found_in vertices depth) (found_in nodes depth) (under_in depth) (found_lost vertices depth) true
      (vertex_at vertices v) (vertex_at nodes (under v)) f (stands v) e

  pub under_at : (v : ℕ) (f : Found) → found_at vertices v ≡ Some f → found_at nodes (under v) ≡ Some (found_under answer_under f)
  under_at v f e = found_deep nodes (length vertices) (under v) (found_under answer_under f) (under_in (length vertices) v f e)

  pub under_few : (v : ℕ) (f : Found) → found_at vertices v ≡ Some f → f.most < length nodes
  under_few v f e = fewer nodes (length nodes) (under v) (found_under answer_under f) (under_at v f e)
