-- Elements of lists that were written or made longer.
use Rattle.std.proofs.Common.{◌≡◌, ℕ, zero, suc, ◌-◌, ◌<◌, ◌≤◌, ◌⊎◌, inl, inr, List, [], ◌∷◌, ◌++◌, length, set, take, get_or, Option, Some, None, slice_get, Contains, refl, ◌∙◌, ap, arith}
use Rattle.std.proofs.lemmas.List.{take_all, take-append-le}

pub some_same : {X : Type 0} (x y : X) → Path (Option X) (Some x) (Some y) → x ≡ y
some_same x y h = cc

pub none_some : {X : Type 0} (x : X) → Path (Option X) None (Some x) → ⊥
none_some x h = absurd (cc)

pub take_front : {X : Type 0} (xs ys : List X) (n : ℕ) → n ≡ length xs → take n (xs ++ ys) ≡ xs
take_front xs ys n same = let le : n ≤ length xs = omega arith in rw take-append-le (take_all n xs (omega arith))

pub get_set_same : {X : Type 0} (xs : List X) (i : ℕ) (x : X) → i < length xs → slice_get (set xs i x) i ≡ Some x
get_set_same [] i x h = absurd (omega arith)
get_set_same (y ∷ ys) zero x h = refl
get_set_same (y ∷ ys) (suc i) x h = get_set_same ys i x (omega arith)

pub get_set_other : {X : Type 0} (xs : List X) (i j : ℕ) (x : X) → ¬ (j ≡ i) → slice_get (set xs i x) j ≡ slice_get xs j
get_set_other [] i j x h = refl
get_set_other (y ∷ ys) zero zero x h = absurd (h refl)
get_set_other (y ∷ ys) zero (suc j) x h = refl
get_set_other (y ∷ ys) (suc i) zero x h = refl
get_set_other (y ∷ ys) (suc i) (suc j) x h = get_set_other ys i j x (λ e. h (ap suc e))

-- an element of a longer list is of the first part or of the second
pub append_cases : {X : Type 0} (xs ys : List X) (k : ℕ) (x : X) → slice_get (xs ++ ys) k ≡ Some x
    → ((k < length xs) × (slice_get xs k ≡ Some x)) ⊎ (slice_get ys (k - length xs) ≡ Some x)
append_cases [] ys k x h = let e : k - 0 ≡ k = omega arith in inr (ap (slice_get ys) e ∙ h)
append_cases (y ∷ xs) ys zero x h = inl (omega arith, h)
append_cases (y ∷ xs) ys (suc k) x h = elim (append_cases xs ys k x h) [
  | inl old ↦ inl (let l : k < length xs = old.0 in omega (arith, l), old.1)
  | inr new ↦ let e : suc k - suc (length xs) ≡ k - length xs = omega arith in inr (ap (slice_get ys) e ∙ new)
]

pub contains_none : {X : Type 0} (x : X) → Contains {X = X} [] x → ⊥
contains_none x c = omega (arith, c.1)

-- the one element of a list of one
pub contains_one : {X : Type 0} (x y : X) → Contains (x ∷ []) y → x ≡ y
contains_one x y c = by_place c.0 c.1 c.2
  where
    by_place : (k : ℕ) → k < 1 → get_or (x ∷ []) k y ≡ y → x ≡ y
    by_place zero h e = e
    by_place (suc k) h e = absurd (omega arith)
