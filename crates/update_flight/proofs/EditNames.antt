-- Which entries the names of a plan's edits are those of.
use Rattle.std.proofs.Common.{◌≡◌, ◌≢◌, inl, inr, ℕ, zero, suc, ◌+◌, ◌<◌, ◌≤◌, Bool, true, false, ◌||◌, if◌then◌else◌, List, [], ◌∷◌, ◌++◌, length, take, drop, slice_get, Option, Some, None, refl, sym, ap, ap₂, ◌∙◌, arith, subst}
use Rattle.std.proofs.lemmas.Bool.{cases_Bool, cases_eq, cases_lt, eq-eqb, ne_eqb, ltb-true, false≢true}
use Rattle.std.proofs.lemmas.List.Folds.{list_any-append}
use Rattle.std.specs.List.{list_any}
use Rattle.net_model.specs.declared.net.Hit.{Hit}
use Rattle.net_model.specs.declared.net.Hit.TheVariants as hits
use Rattle.net_model.specs.Network.{Network}
use Rattle.net_model.specs.declared.net.EntryId.{EntryId}
use Rattle.net_model.specs.declared.net.EntryId.TheVariants as ids
use Rattle.update_spec.specs.Joined.{added_routes, added_sids, is_new_route, is_new_sid}
use Rattle.update_theory.specs.LookupsTerms.{is_of_old, is_of_new, passes_or_absent}
use Rattle.update_flight.specs.Planned.{added_entries, lost_from, named_from, removed_entries}
use Rattle.update_flight.specs.PlannedTerms.{names}

abbrev pub named_in : Hit → List EntryId → Bool
named_in h entries = list_any (λ entry. names entry h) entries

or_right : (b c : Bool) → c ≡ true → (b || c) ≡ true
or_right true c is = refl
or_right false c is = is

or_behind : (b c : Bool) → (b || c) ≡ false → c ≡ false
or_behind true c is = absurd (false≢true (sym is))
or_behind false c is = is

or_front : (b c : Bool) → (b || c) ≡ false → b ≡ false
or_front true c is = is
or_front false c is = refl

-- a part of a list

pub none_dropped : (h : Hit) (entries : List EntryId) (k : ℕ) → named_in h entries ≡ false → named_in h (drop k entries) ≡ false
none_dropped h [] zero none = refl
none_dropped h [] (suc k) none = refl
none_dropped h (e ∷ entries) zero none = none
none_dropped h (e ∷ entries) (suc k) none = none_dropped h entries k (or_behind (names e h) (named_in h entries) none)

pub none_taken : (h : Hit) (entries : List EntryId) (k : ℕ) → named_in h entries ≡ false → named_in h (take k entries) ≡ false
none_taken h [] zero none = refl
none_taken h [] (suc k) none = refl
none_taken h (e ∷ entries) zero none = refl
none_taken h (e ∷ entries) (suc k) none =
    ap₂ (λ b c. b || c) (or_front (names e h) (named_in h entries) none)
    (none_taken h entries k (or_behind (names e h) (named_in h entries) none))

-- names from a number on

none_from : {X : Type 0} (name : ℕ → EntryId) (h : Hit) (n : ℕ) (xs : List X) → ((m : ℕ) → n ≤ m → names (name m) h ≡ false)
    → named_in h (named_from name n xs) ≡ false
none_from name h n [] apart = refl
none_from name h n (x ∷ xs) apart =
    ap (λ b. b || named_in h (named_from name (n + 1) xs)) (apart n (omega arith))
    ∙ none_from name h (n + 1) xs (λ m above. apart m (omega (arith, above)))

some_from : {X : Type 0} (name : ℕ → EntryId) (h : Hit) (n : ℕ) (xs : List X) (m : ℕ) → n ≤ m → m < n + length xs
    → names (name m) h ≡ true → named_in h (named_from name n xs) ≡ true
some_from name h n [] m above below is = absurd (omega (arith, above, below))
some_from name h n (x ∷ xs) m above below is = elim (cases_eq n m) [
  | inl same ↦ ap (λ b. b || named_in h (named_from name (n + 1) xs)) (ap (λ k. names (name k) h) same ∙ is)
  | inr apart ↦ or_right (names (name n) h) (named_in h (named_from name (n + 1) xs))
      (some_from name h (n + 1) xs m (above_one n m above apart) (omega (arith, below)) is)
] where
  above_one : (n m : ℕ) → n ≤ m → (n ≡ m → ⊥) → n + 1 ≤ m
  above_one n m above apart = elim (cases_lt n m) [
    | inl less ↦ omega (arith, less)
    | inr most ↦ absurd (apart (omega (arith, above, most)))
  ]

-- names of those that do not stay

none_lost : {X : Type 0} (stays : X → Bool) (name : ℕ → EntryId) (h : Hit) (n : ℕ) (xs : List X)
    → ((m : ℕ) (x : X) → slice_get xs m ≡ Some x → stays x ≡ false → names (name (n + m)) h ≡ false)
    → named_in h (lost_from stays name n xs) ≡ false
none_lost stays name h n [] apart = refl
none_lost stays name h n (x ∷ xs) apart =
    let rest : named_in h (lost_from stays name (n + 1) xs) ≡ false = none_lost stays name h (n + 1) xs (λ m y there lost.
    let e : n + suc m ≡ n + 1 + m = omega arith in
    subst (λ (k : ℕ). names (name k) h ≡ false) e (apart (suc m) y there lost)) in
    elim (cases_Bool (stays x)) [
      | inl kept ↦ ap (λ b. named_in h (if b then lost_from stays name (n + 1) xs else name n ∷ lost_from stays name (n + 1) xs)) kept
          ∙ rest
      | inr lost ↦
          let e : n + 0 ≡ n = omega arith in
          let here : names (name n) h ≡ false = subst (λ (k : ℕ). names (name k) h ≡ false) e (apart 0 x refl lost) in
          ap (λ b. named_in h (if b then lost_from stays name (n + 1) xs else name n ∷ lost_from stays name (n + 1) xs)) lost
          ∙ ap₂ (λ b c. b || c) here rest
    ]

some_is : {X : Type 0} (x y : X) → Some x ≡ Some y → x ≡ y
some_is x y e = cc

some_lost : {X : Type 0} (stays : X → Bool) (name : ℕ → EntryId) (h : Hit) (n : ℕ) (xs : List X) (m : ℕ) (x : X)
    → slice_get xs m ≡ Some x → stays x ≡ false → names (name (n + m)) h ≡ true → named_in h (lost_from stays name n xs) ≡ true
some_lost stays name h n [] m x there lost is = cc
some_lost stays name h n (y ∷ xs) zero x there lost is =
    let e : n + 0 ≡ n = omega arith in
    let here : names (name n) h ≡ true = subst (λ (k : ℕ). names (name k) h ≡ true) e is in
    ap (λ b. named_in h (if b then lost_from stays name (n + 1) xs else name n ∷ lost_from stays name (n + 1) xs))
    (ap stays (some_is y x there) ∙ lost)
    ∙ ap (λ b. b || named_in h (lost_from stays name (n + 1) xs)) here
some_lost stays name h n (y ∷ xs) (suc m) x there lost is =
    let e : n + suc m ≡ n + 1 + m = omega arith in
    let rest : named_in h (lost_from stays name (n + 1) xs) ≡ true =
    some_lost stays name h (n + 1) xs m x there lost (subst (λ (k : ℕ). names (name k) h ≡ true) e is) in
    elim (cases_Bool (stays y)) [
      | inl kept ↦ ap (λ b. named_in h (if b then lost_from stays name (n + 1) xs else name n ∷ lost_from stays name (n + 1) xs)) kept
          ∙ rest
      | inr gone ↦ ap (λ b. named_in h (if b then lost_from stays name (n + 1) xs else name n ∷ lost_from stays name (n + 1) xs)) gone
          ∙ or_right (names (name n) h) (named_in h (lost_from stays name (n + 1) xs)) rest
    ]

-- routes and SIDs

both_none : (h : Hit) (routes sids : List EntryId) → named_in h routes ≡ false → named_in h sids ≡ false
    → named_in h (routes ++ sids) ≡ false
both_none h routes sids one other = list_any-append (λ entry. names entry h) routes sids ∙ ap₂ (λ b c. b || c) one other

first_some : (h : Hit) (routes sids : List EntryId) → named_in h routes ≡ true → named_in h (routes ++ sids) ≡ true
first_some h routes sids one =
    list_any-append (λ entry. names entry h) routes sids ∙ ap (λ b. b || named_in h sids) one

last_some : (h : Hit) (routes sids : List EntryId) → named_in h sids ≡ true → named_in h (routes ++ sids) ≡ true
last_some h routes sids other =
    list_any-append (λ entry. names entry h) routes sids ∙ or_right (named_in h routes) (named_in h sids) other

module _ (old new : Network) where
  pub added_none : (h : Hit) → is_of_old old h ≡ true → named_in h (added_entries old new) ≡ false
  added_none (hits.Sid m) is =
      let below : m < length old.sids = ltb-true m (length old.sids) is in
      both_none (hits.Sid m) (named_from ids.Route (length old.routes) (added_routes old new))
      (named_from ids.Sid (length old.sids) (added_sids old new))
      (none_from ids.Route (hits.Sid m) (length old.routes) (added_routes old new) (λ k above. refl))
      (none_from ids.Sid (hits.Sid m) (length old.sids) (added_sids old new)
      (λ k above. ne_eqb k m (λ same. omega (arith, below, above, same))))
  added_none hits.Address is =
      both_none hits.Address (named_from ids.Route (length old.routes) (added_routes old new))
      (named_from ids.Sid (length old.sids) (added_sids old new))
      (none_from ids.Route hits.Address (length old.routes) (added_routes old new) (λ k above. refl))
      (none_from ids.Sid hits.Address (length old.sids) (added_sids old new) (λ k above. refl))
  added_none (hits.Route m) is =
      let below : m < length old.routes = ltb-true m (length old.routes) is in
      both_none (hits.Route m) (named_from ids.Route (length old.routes) (added_routes old new))
      (named_from ids.Sid (length old.sids) (added_sids old new))
      (none_from ids.Route (hits.Route m) (length old.routes) (added_routes old new)
      (λ k above. ne_eqb k m (λ same. omega (arith, below, above, same))))
      (none_from ids.Sid (hits.Route m) (length old.sids) (added_sids old new) (λ k above. refl))
  added_none hits.Nothing is =
      both_none hits.Nothing (named_from ids.Route (length old.routes) (added_routes old new))
      (named_from ids.Sid (length old.sids) (added_sids old new))
      (none_from ids.Route hits.Nothing (length old.routes) (added_routes old new) (λ k above. refl))
      (none_from ids.Sid hits.Nothing (length old.sids) (added_sids old new) (λ k above. refl))

  pub added_sid : (m : ℕ) → length old.sids ≤ m → m < length old.sids + length (added_sids old new)
      → named_in (hits.Sid m) (added_entries old new) ≡ true
  added_sid m above below =
      last_some (hits.Sid m) (named_from ids.Route (length old.routes) (added_routes old new))
      (named_from ids.Sid (length old.sids) (added_sids old new))
      (some_from ids.Sid (hits.Sid m) (length old.sids) (added_sids old new) m above below (eq-eqb m m refl))

  pub added_route : (m : ℕ) → length old.routes ≤ m → m < length old.routes + length (added_routes old new)
      → named_in (hits.Route m) (added_entries old new) ≡ true
  added_route m above below =
      first_some (hits.Route m) (named_from ids.Route (length old.routes) (added_routes old new))
      (named_from ids.Sid (length old.sids) (added_sids old new))
      (some_from ids.Route (hits.Route m) (length old.routes) (added_routes old new) m above below (eq-eqb m m refl))

  abbrev lost_routes : List EntryId
  lost_routes = lost_from (is_new_route new) ids.Route 0 old.routes

  abbrev lost_sids : List EntryId
  lost_sids = lost_from (is_new_sid old new) ids.Sid 0 old.sids

  -- an item that passes its test at a number is not one that fails it at that number
  apart_by : {X : Type 0} (test : X → Bool) (xs : List X) (m k : ℕ) (x : X) → passes_or_absent test (slice_get xs m) ≡ true
      → slice_get xs k ≡ Some x → test x ≡ false → 0 + k ≡ m → ⊥
  apart_by test xs m k x passes there lost same =
      let e : m ≡ k = omega (arith, same) in
      let at : test x ≡ true = subst (λ o. passes_or_absent test o ≡ true) (ap (slice_get xs) e ∙ there) passes in
      absurd (false≢true (sym lost ∙ at))

  pub removed_none : (h : Hit) → is_of_new old new h ≡ true → named_in h (removed_entries old new) ≡ false
  removed_none (hits.Sid m) is =
      both_none (hits.Sid m) lost_routes lost_sids
      (none_lost (is_new_route new) ids.Route (hits.Sid m) 0 old.routes (λ k x there lost. refl))
      (none_lost (is_new_sid old new) ids.Sid (hits.Sid m) 0 old.sids
      (λ k x there lost. ne_eqb (0 + k) m (apart_by (is_new_sid old new) old.sids m k x is there lost)))
  removed_none hits.Address is =
      both_none hits.Address lost_routes lost_sids
      (none_lost (is_new_route new) ids.Route hits.Address 0 old.routes (λ k x there lost. refl))
      (none_lost (is_new_sid old new) ids.Sid hits.Address 0 old.sids (λ k x there lost. refl))
  removed_none (hits.Route m) is =
      both_none (hits.Route m) lost_routes lost_sids
      (none_lost (is_new_route new) ids.Route (hits.Route m) 0 old.routes
      (λ k x there lost. ne_eqb (0 + k) m (apart_by (is_new_route new) old.routes m k x is there lost)))
      (none_lost (is_new_sid old new) ids.Sid (hits.Route m) 0 old.sids (λ k x there lost. refl))
  removed_none hits.Nothing is =
      both_none hits.Nothing lost_routes lost_sids
      (none_lost (is_new_route new) ids.Route hits.Nothing 0 old.routes (λ k x there lost. refl))
      (none_lost (is_new_sid old new) ids.Sid hits.Nothing 0 old.sids (λ k x there lost. refl))

  lost_by : {X : Type 0} (test : X → Bool) (name : ℕ → EntryId) (h : Hit) (xs : List X) (m : ℕ) (o : Option X) → slice_get xs m ≡ o
      → names (name m) h ≡ true → passes_or_absent test o ≡ false → named_in h (lost_from test name 0 xs) ≡ true
  lost_by test name h xs m None there is fails = absurd (false≢true (sym fails))
  lost_by test name h xs m (Some x) there is fails =
      let e : m ≡ 0 + m = omega arith in
      some_lost test name h 0 xs m x there fails (subst (λ (k : ℕ). names (name k) h ≡ true) e is)

  pub removed_some : (h : Hit) → is_of_new old new h ≡ false → named_in h (removed_entries old new) ≡ true
  removed_some (hits.Sid m) is =
      last_some (hits.Sid m) lost_routes lost_sids
      (lost_by (is_new_sid old new) ids.Sid (hits.Sid m) old.sids m (slice_get old.sids m) refl (eq-eqb m m refl) is)
  removed_some hits.Address is = absurd (false≢true (sym is))
  removed_some (hits.Route m) is =
      first_some (hits.Route m) lost_routes lost_sids
      (lost_by (is_new_route new) ids.Route (hits.Route m) old.routes m (slice_get old.routes m) refl (eq-eqb m m refl) is)
  removed_some hits.Nothing is = absurd (false≢true (sym is))
