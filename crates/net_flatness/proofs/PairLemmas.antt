-- The first pair of an outer and an inner item.
use Rattle.std.proofs.Common.{◌≡◌, ◌⊎◌, ℕ, zero, suc, ◌<◌, Bool, true, List, [], ◌∷◌, Option, Some, None, Result, Ok, Err, ◌↔◌, refl, sym, subst, arith, inl, inr}
use Rattle.std.specs.List.{find, Contains}
use Rattle.std.proofs.lemmas.Bool.{both_ways}
use Rattle.std.proofs.lemmas.Option.{same_Some}
use Rattle.net_model.proofs.PublicLaws.{find_first, find_none, get_from_contains, contains_from_get}
use Rattle.net_flatness.specs.declared.not_flat.NotFlat.{NotFlat}
use Rattle.net_flatness.specs.Flat.{pair_or, first_pair}
use Rattle.net_flatness.specs.FlatTerms.{IsPairAt, IsFirst}

-- the lists have no pair
abbrev pub HaveNone : {X Y : Type 0} → (X → Y → Type 0) → List X → List Y → Type 0
HaveNone {X} {Y} Pair xs ys = (i j : ℕ) (x : X) (y : Y) → ¬ IsPairAt Pair xs ys i j x y

pub none_among : {X Y : Type 0} (Pair : X → Y → Type 0) (xs : List X) (ys : List Y) → HaveNone Pair xs ys → (x : X) (y : Y) → Contains xs x
    → Contains ys y → ¬ Pair x y
none_among Pair xs ys none x y in_xs in_ys pair =
    let (i, at_i) = get_from_contains xs x in_xs in
    let (j, at_j) = get_from_contains ys y in_ys in
    none i j x y (at_i, at_j, pair)

pub first_among : {X Y : Type 0} (Pair : X → Y → Type 0) (xs : List X) (ys : List Y) (x : X) (y : Y) → IsFirst Pair xs ys x y
    → Contains xs x × Contains ys y × Pair x y
first_among Pair xs ys x y first =
    let (at_i, at_j, pair) = first.pair in
    (contains_from_get xs first.outer_place x at_i, contains_from_get ys first.inner_place y at_j, pair)

module _ {X Y : Type 0} (test : X → Y → Bool) (Pair : X → Y → Type 0) (why : X → Y → NotFlat)
    (means : (x : X) (y : Y) → (test x y ≡ true) ↔ Pair x y) where
  -- there is no pair and no refusal, or a first pair and its refusal
  abbrev pub AreJudged : List X → List Y → Result (Unit {0}) NotFlat → Type 0
  AreJudged xs ys r = (HaveNone Pair xs ys × (r ≡ Ok tt)) ⊎ ((x : X) × (y : Y) × IsFirst Pair xs ys x y × (r ≡ Err (why x y)))

  -- an outer item in front that is in no pair
  not_in_front : (o : X) (xs : List X) (ys : List Y) → find (test o) ys ≡ None → (j : ℕ) (x : X) (y : Y)
      → ¬ IsPairAt Pair (o ∷ xs) ys 0 j x y
  not_in_front o xs ys none j x y (at_x, at_y, pair) =
      both_ways _ (find_none (test o) ys none j y at_y) (subst (λ z. test z y ≡ true) (sym (same_Some o x at_x)) ((means x y).1 pair))

  none_with : (o : X) (xs : List X) (ys : List Y) → find (test o) ys ≡ None → HaveNone Pair xs ys → HaveNone Pair (o ∷ xs) ys
  none_with o xs ys none later zero j x y at = not_in_front o xs ys none j x y at
  none_with o xs ys none later (suc i) j x y at = later i j x y at

  first_behind : (o : X) (xs : List X) (ys : List Y) (x : X) (y : Y) → find (test o) ys ≡ None → IsFirst Pair xs ys x y
      → IsFirst Pair (o ∷ xs) ys x y
  first_behind o xs ys x y none later = record {
    outer_place = suc later.outer_place;
    inner_place = later.inner_place;
    pair = later.pair;
    no_earlier_outer = nowhere;
    no_earlier_inner = later.no_earlier_inner;
  }
    where
      nowhere : (i j : ℕ) (z : X) (w : Y) → i < suc later.outer_place → ¬ IsPairAt Pair (o ∷ xs) ys i j z w
      nowhere zero j z w before at = not_in_front o xs ys none j z w at
      nowhere (suc i) j z w before at = later.no_earlier_outer i j z w (omega arith) at

  first_in_front : (o : X) (xs : List X) (ys : List Y) (y : Y) → find (test o) ys ≡ Some y → IsFirst Pair (o ∷ xs) ys o y
  first_in_front o xs ys y found =
      let (j, at, passes, before) = find_first (test o) ys y found in
      record {
        outer_place = 0;
        inner_place = j;
        pair = (refl, at, (means o y).0 passes);
        no_earlier_outer = λ i k z w below. absurd (omega arith);
        no_earlier_inner = λ k w below pair. both_ways _ (before k w below pair.1) ((means o w).1 pair.2);
      }

  judged_by : (o : X) (xs : List X) (ys : List Y) (f : Option Y) (r : Result (Unit {0}) NotFlat) → find (test o) ys ≡ f → AreJudged xs ys r
      → AreJudged (o ∷ xs) ys (pair_or why o f r)
  judged_by o xs ys None r found (inl (none, e)) = inl (none_with o xs ys found none, e)
  judged_by o xs ys None r found (inr (x, y, first, e)) = inr (x, y, first_behind o xs ys x y found first, e)
  judged_by o xs ys (Some y) r found later = inr (o, y, first_in_front o xs ys y found, refl)

  pub are_judged : (xs : List X) (ys : List Y) → AreJudged xs ys (first_pair test why ys xs)
  are_judged [] ys = inl (λ i j x y at. let e = at.0 in cc, refl)
  are_judged (o ∷ xs) ys = judged_by o xs ys (find (test o) ys) (first_pair test why ys xs) refl (are_judged xs ys)
