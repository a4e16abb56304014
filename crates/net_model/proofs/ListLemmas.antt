-- Lists whose items all pass a test, or are distinct, by number.
use Rattle.std.proofs.Common.{◌≡◌, ℕ, zero, suc, Bool, true, false, List, [], ◌∷◌, Some, refl, ap, subst}
use Rattle.std.specs.List.{slice_get, list_all, list_any, Contains}
use Rattle.std.proofs.lemmas.Bool.{and_parts, and_from, not-true, eq-eqb, or_parts, both_ways}
use Rattle.std.proofs.lemmas.Option.{same_Some}
use Rattle.std.proofs.lemmas.List.Sums.{AllPass-from_list_all}
use Rattle.std.proofs.lemmas.List.Elements.{All-contains}
use Rattle.net_model.specs.NetworkRules.{are_distinct, same_bytes}

pub passes_at : {X : Type 0} (p : X → Bool) (xs : List X) (i : ℕ) (x : X) → list_all p xs ≡ true → slice_get xs i ≡ Some x → p x ≡ true
passes_at p [] i x h e = cc
passes_at p (y ∷ ys) zero x h e = subst (λ z. p z ≡ true) (same_Some y x e) (and_parts _ _ h).0
passes_at p (y ∷ ys) (suc i) x h e = passes_at p ys i x (and_parts _ _ h).1 e

pub passes_among : {X : Type 0} (p : X → Bool) (xs : List X) (x : X) → list_all p xs ≡ true → Contains xs x → p x ≡ true
passes_among p xs x h c = All-contains (λ y. p y ≡ true) xs x (AllPass-from_list_all p xs h) c

fails_at : {X : Type 0} (p : X → Bool) (xs : List X) (i : ℕ) (x : X) → list_any p xs ≡ false → slice_get xs i ≡ Some x → p x ≡ false
fails_at p [] i x h e = cc
fails_at p (y ∷ ys) zero x h e = subst (λ z. p z ≡ false) (same_Some y x e) (or_parts _ _ h).0
fails_at p (y ∷ ys) (suc i) x h e = fails_at p ys i x (or_parts _ _ h).1 e

-- in a list of distinct items two that agree have one number
pub same_number_of : {X : Type 0} (same : X → X → Bool) (xs : List X) (i j : ℕ) (x y : X) → are_distinct same xs ≡ true
    → slice_get xs i ≡ Some x → slice_get xs j ≡ Some y → same x y ≡ true → same y x ≡ true → i ≡ j
same_number_of same [] i j x y h at_i at_j xy yx = cc
same_number_of same (z ∷ zs) zero zero x y h at_i at_j xy yx = refl
same_number_of same (z ∷ zs) zero (suc j) x y h at_i at_j xy yx =
    let none = subst (λ w. list_any (same w) zs ≡ false) (same_Some z x at_i) (not-true _ (and_parts _ _ h).0) in
    absurd (both_ways _ (fails_at (same x) zs j y none at_j) xy)
same_number_of same (z ∷ zs) (suc i) zero x y h at_i at_j xy yx =
    let none = subst (λ w. list_any (same w) zs ≡ false) (same_Some z y at_j) (not-true _ (and_parts _ _ h).0) in
    absurd (both_ways _ (fails_at (same y) zs i x none at_i) yx)
same_number_of same (z ∷ zs) (suc i) (suc j) x y h at_i at_j xy yx =
    ap suc (same_number_of same zs i j x y (and_parts _ _ h).1 at_i at_j xy yx)

same_bytes_self : (xs : List ℕ) → same_bytes xs xs ≡ true
same_bytes_self [] = refl
same_bytes_self (x ∷ xs) = and_from _ _ (eq-eqb x x refl) (same_bytes_self xs)

pub same_bytes_from : (xs ys : List ℕ) → xs ≡ ys → same_bytes xs ys ≡ true
same_bytes_from xs ys e = subst (λ zs. same_bytes xs zs ≡ true) e (same_bytes_self xs)
