-- The first item of a list that passes a test, found one after another.
use Rattle.std.proofs.Common.{◌≡◌, ℕ, zero, suc, ◌+◌, ◌<◌, ◌≤◌, Bool, true, false, cond, ltb, List, [], ◌∷◌, length, Some, None, refl, sym, ap, ◌∙◌, subst, arith, inl, inr}
use Rattle.std.specs.List.{slice_get, position_or_len, position}
use Rattle.std.proofs.lemmas.Bool.{cases_lt}
use Rattle.std.proofs.lemmas.Bool.Decides.{nat_tests}
use Rattle.std.proofs.lemmas.Option.{same_Some, slice_get_within}

-- no item before number n passes
pub record FailsBefore {X : Type 0} (p : X → Bool) (xs : List X) (n : ℕ) : Type 0 where
  pub each : (k : ℕ) (x : X) → k < n → slice_get xs k ≡ Some x → p x ≡ false

pub fails_start : {X : Type 0} (p : X → Bool) (xs : List X) → FailsBefore p xs 0
fails_start p xs = record { each = λ k x h e. absurd (omega arith) }

fails_at : {X : Type 0} (p : X → Bool) (xs : List X) (k n : ℕ) (x y : X) → k ≡ n → slice_get xs n ≡ Some x → slice_get xs k ≡ Some y
    → p x ≡ false → p y ≡ false
fails_at p xs k n x y same is at fails = subst (λ z. p z ≡ false)
    (same_Some x y (sym is ∙ (ap (λ m. slice_get xs m) (sym same) ∙ at))) fails

pub fails_more : {X : Type 0} (p : X → Bool) (xs : List X) (n : ℕ) (x : X) → FailsBefore p xs n → slice_get xs n ≡ Some x → p x ≡ false
    → FailsBefore p xs (n + 1)
fails_more p xs n x before is fails = record {
  each = λ k y h e. elim (cases_lt k n) [ inl less ↦ before.each k y less e | inr more ↦ fails_at p xs k n x y (omega arith) is e fails ];
}

behind_first : {X : Type 0} (p : X → Bool) (y : X) (ys : List X) (n : ℕ) → FailsBefore p (y ∷ ys) (suc n) → FailsBefore p ys n
behind_first p y ys n before = record { each = λ k x h e. before.each (suc k) x (omega arith) e }

place_of : {X : Type 0} (p : X → Bool) (xs : List X) (n : ℕ) (x : X) → FailsBefore p xs n → slice_get xs n ≡ Some x → p x ≡ true
    → position_or_len p xs ≡ n
place_of p [] n x before is passes = cc
place_of p (y ∷ ys) zero x before is passes =
    let first : p y ≡ true = subst (λ z. p z ≡ true) (sym (same_Some y x is)) passes in
    rw first
place_of p (y ∷ ys) (suc n) x before is passes =
    let first : p y ≡ false = before.each 0 y (omega arith) refl in
    let rest : position_or_len p ys ≡ n = place_of p ys n x (behind_first p y ys n before) is passes in
    rw first (omega arith)

no_place : {X : Type 0} (p : X → Bool) (xs : List X) (n : ℕ) → FailsBefore p xs n → length xs ≤ n → position_or_len p xs ≡ length xs
no_place p [] n before past = refl
no_place p (y ∷ ys) zero before past = absurd (omega arith)
no_place p (y ∷ ys) (suc n) before past =
    let first : p y ≡ false = before.each 0 y (omega arith) refl in
    let rest : position_or_len p ys ≡ length ys = no_place p ys n (behind_first p y ys n before) (omega arith) in
    rw first (omega arith)

within_it : (n m : ℕ) → n < m → Some n ≡ cond (ltb n m) (Some n) None
within_it n m h = grind (arith, nat_tests)

past_it : (m : ℕ) → None ≡ cond (ltb m m) (Some m) None
past_it m = grind (arith, nat_tests)

pub found_first : {X : Type 0} (p : X → Bool) (xs : List X) (n : ℕ) (x : X) → FailsBefore p xs n → slice_get xs n ≡ Some x → p x ≡ true
    → Some n ≡ position p xs
found_first p xs n x before is passes =
    let place : position_or_len p xs ≡ n = place_of p xs n x before is passes in
    rw place (within_it n (length xs) (slice_get_within xs n x is))

pub found_none : {X : Type 0} (p : X → Bool) (xs : List X) (n : ℕ) → FailsBefore p xs n → length xs ≤ n → None ≡ position p xs
found_none p xs n before past =
    let place : position_or_len p xs ≡ length xs = no_place p xs n before past in
    rw place (past_it (length xs))

pub ruleset searching = (fails_start, fails_more, found_first, found_none)
