-- What a search has to find is one.
use Rattle.std.proofs.Common.{◌≡◌, ℕ, zero, suc, ◌⊎◌, inl, inr, arith, Bool, true, false, if◌then◌else◌, List, [], ◌∷◌, map, Option, Some, Contains, AllPairs, refl, sym, ◌∙◌, ap, subst}
use Rattle.std.proofs.lemmas.Bool.{false≢true}
use Rattle.list_pack.specs.declared.types.Cost.{Cost}
use Rattle.list_pack.specs.declared.types.State.{State}
use Rattle.list_pack.specs.declared.types.PathStep.{PathStep}
use Rattle.list_pack.specs.declared.types.Potential.{Potential}
use Rattle.list_pack.specs.declared.types.Solution.{Solution}
use Rattle.list_pack.specs.LegsValue.{LegsValue}
use Rattle.list_pack.specs.Costs.{Move, AtMost, Under, start}
use Rattle.list_pack.specs.Least.{IsLeast, IsFirstLeast, IsBefore, IsListing, IsPathOrNone, IsSolution, path_key, state_key, step_of}
use Rattle.list_pack.proofs.Costing.{at_most_both}
use Rattle.list_pack.proofs.ListOrders.{lex_itself, lex_not_both, lex_same}

-- ---- one order of the same things

-- one of a list is its first, or one of the others
first_or : {X : Type 0} (x : X) (xs : List X) (y : X) → Contains (x ∷ xs) y → (x ≡ y) ⊎ Contains xs y
first_or x xs y (zero, within, is) = inl is
first_or x xs y (suc k, within, is) = inr (k, omega (arith, within), is)

first_in : {X : Type 0} (x : X) (xs : List X) → Contains (x ∷ xs) x
first_in x xs = (zero, omega arith, refl)

rest_in : {X : Type 0} (x : X) (xs : List X) (y : X) → Contains xs y → Contains (x ∷ xs) y
rest_in x xs y among = (suc among.0, omega (arith, among.1), among.2)

module _ (v : LegsValue) where
  abbrev Before : Potential → Potential → Type 0
  Before p q = IsBefore v p.state q.state

  -- all of one list are of another
  abbrev AreOf : List Potential → List Potential → Type 0
  AreOf ps qs = (q : Potential) → Contains ps q → Contains qs q

  not_both : (p q : Potential) → Before p q → Before q p → ⊥
  not_both p q one other =
      false≢true (sym (lex_not_both (state_key v p.state) (state_key v q.state) one) ∙ other)

  not_itself : (p : Potential) → Before p p → ⊥
  not_itself p before = false≢true (sym (lex_itself (state_key v p.state)) ∙ before)

  first_before : (p : Potential) (ps : List Potential) (q : Potential) → AllPairs Before (p ∷ ps) → Contains ps q → Before p q
  first_before p ps q order among =
      subst (λ (x : Potential). Before p x) among.2 (order 0 (suc among.0) q (omega arith) (omega (arith, among.1)))

  rest_order : (p : Potential) (ps : List Potential) → AllPairs Before (p ∷ ps) → AllPairs Before ps
  rest_order p ps order i j d less within = order (suc i) (suc j) d (omega (arith, less)) (omega (arith, within))

  firsts_same : (p q : Potential) (ps qs : List Potential) → AllPairs Before (p ∷ ps) → AllPairs Before (q ∷ qs)
      → AreOf (p ∷ ps) (q ∷ qs) → AreOf (q ∷ qs) (p ∷ ps) → p ≡ q
  firsts_same p q ps qs one other here there =
      elim (first_or q qs p (here p (first_in p ps))) as (λ w. p ≡ q) [
        | inl same ↦ sym same
        | inr far ↦
            elim (first_or p ps q (there q (first_in q qs))) as (λ w. p ≡ q) [
              | inl same ↦ same
              | inr also ↦ absurd (not_both q p (first_before q qs p other far) (first_before p ps q one also))
            ]
      ]

  rest_of : (p q : Potential) (ps qs : List Potential) → AllPairs Before (p ∷ ps) → p ≡ q → AreOf (p ∷ ps) (q ∷ qs) → AreOf ps qs
  rest_of p q ps qs one same here x among =
      elim (first_or q qs x (here x (rest_in p ps x among))) as (λ w. Contains qs x) [
        | inl is ↦
            absurd (not_itself p (subst (λ (y : Potential). Before p y) (sym (same ∙ is)) (first_before p ps x one among)))
        | inr far ↦ far
      ]

  none_of : (q : Potential) → Contains [] q → ⊥
  none_of q among = let within = among.1 in absurd (omega (arith, within))

  one_order : (ps qs : List Potential) → AllPairs Before ps → AllPairs Before qs → AreOf ps qs → AreOf qs ps → ps ≡ qs
  one_order [] [] one other here there = refl
  one_order [] (q ∷ qs) one other here there = absurd (none_of q (there q (first_in q qs)))
  one_order (p ∷ ps) [] one other here there = absurd (none_of p (here p (first_in p ps)))
  one_order (p ∷ ps) (q ∷ qs) one other here there =
      let same = firsts_same p q ps qs one other here there in
      let rest = one_order ps qs (rest_order p ps one) (rest_order q qs other) (rest_of p q ps qs one same here)
      (rest_of q p qs ps other (sym same) there) in
      ap (λ (x : Potential). x ∷ ps) same ∙ ap (λ (xs : List Potential). q ∷ xs) rest

  -- ---- the listing

  at_most : (s : State) (c d : Cost) → IsLeast v s (Some c) → IsLeast v s (Some d) → AtMost c d
  at_most s c d one other =
      let path = other.attains in
      subst (λ (o : Option Cost). Under (Some c) o) path.1 (one.least path.0)

  least_same : (s : State) (c d : Cost) → IsLeast v s (Some c) → IsLeast v s (Some d) → c ≡ d
  least_same s c d one other = at_most_both c d (at_most s c d one other) (at_most s d c other one)

  listed_of : (ps qs : List Potential) → IsListing v ps → IsListing v qs → AreOf ps qs
  listed_of ps qs one other q among =
      let here = one.exact q among in
      let path = here.1.attains in
      let there = other.listed q.state path.0 q.cost here.0 path.1 in
      let also = (other.exact (record { state = q.state; cost = there.0 }) there.1).1 in
      subst (λ (c : Cost). Contains qs (record { state = q.state; cost = c })) (least_same q.state there.0 q.cost also here.1) there.1

  listings_same : (ps qs : List Potential) → IsListing v ps → IsListing v qs → ps ≡ qs
  listings_same ps qs one other = one_order ps qs one.order other.order (listed_of ps qs one other) (listed_of qs ps other one)

  -- ---- the first least path

  firsts_of : (x y : ℕ) (xs ys : List ℕ) → x ∷ xs ≡ y ∷ ys → (x ≡ y) × (xs ≡ ys)
  firsts_of x y xs ys e = (cc, cc)

  abbrev stays_key : Bool → ℕ
  stays_key b = if b then 0 else 1

  stays_same : (a b : Bool) → stays_key a ≡ stays_key b → a ≡ b
  stays_same true true e = refl
  stays_same true false e = absurd (omega (arith, e))
  stays_same false true e = absurd (omega (arith, e))
  stays_same false false e = refl

  step_same : (p q : PathStep) → p.stays ≡ q.stays → p.prefix.value ≡ q.prefix.value → p.prefix.len ≡ q.prefix.len → p ≡ q
  step_same p q stays value len =
      ap (λ (b : Bool). record { stays = b; prefix = p.prefix }) stays
      ∙ ap (λ (n : ℕ). record { stays = q.stays; prefix = record { value = n; len = p.prefix.len } }) value
      ∙ ap (λ (n : ℕ). record { stays = q.stays; prefix = record { value = q.prefix.value; len = n } }) len

  keys_same : (ps qs : List PathStep) → path_key ps ≡ path_key qs → ps ≡ qs
  keys_same [] [] e = refl
  keys_same [] (q ∷ qs) e = absurd (cc)
  keys_same (p ∷ ps) [] e = absurd (cc)
  keys_same (p ∷ ps) (q ∷ qs) e =
      let values = firsts_of p.prefix.value q.prefix.value _ _ e in
      let lens = firsts_of p.prefix.len q.prefix.len _ _ values.1 in
      let stays = firsts_of (stays_key p.stays) (stays_key q.stays) _ _ lens.1 in
      ap (λ (x : PathStep). x ∷ ps) (step_same p q (stays_same p.stays q.stays stays.0) values.0 lens.0)
      ∙ ap (λ (xs : List PathStep). q ∷ xs) (keys_same ps qs stays.1)

  moves_same : (c d : Cost) (ms ns : List Move) → IsFirstLeast v start c ms → IsFirstLeast v start d ns
      → map (step_of v) ms ≡ map (step_of v) ns
  moves_same c d ms ns one other =
      let most : AtMost c d = subst (λ (o : Option Cost). Under (Some c) o) other.cost (one.least ns) in
      let least : AtMost d c = subst (λ (o : Option Cost). Under (Some d) o) one.cost (other.least ms) in
      let same : c ≡ d = at_most_both c d most least in
      let here = one.first ns (other.cost ∙ ap Some (sym same)) in
      let there = other.first ms (one.cost ∙ ap Some same) in
      keys_same (map (step_of v) ms) (map (step_of v) ns)
      (lex_same (path_key (map (step_of v) ms)) (path_key (map (step_of v) ns)) there here)

  paths_same : (ps qs : List PathStep) → IsPathOrNone v ps → IsPathOrNone v qs → ps ≡ qs
  paths_same [] [] one other = refl
  paths_same [] (q ∷ qs) one other = let none = one other.moves in let some = other.first.cost in absurd (cc)
  paths_same (p ∷ ps) [] one other = let none = other one.moves in let some = one.first.cost in absurd (cc)
  paths_same (p ∷ ps) (q ∷ qs) one other =
      one.is_path ∙ moves_same one.cost other.cost one.moves other.moves one.first other.first ∙ sym other.is_path

  pub solutions_same : (s t : Solution) → IsSolution v s → IsSolution v t → s ≡ t
  solutions_same s t one other =
      ap (λ (ps : List Potential). record { potentials = ps; path = s.path })
      (listings_same s.potentials t.potentials one.potentials other.potentials)
      ∙ ap (λ (p : List PathStep). record { potentials = t.potentials; path = p }) (paths_same s.path t.path one.path other.path)
