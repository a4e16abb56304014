-- The first place of a list whose item passes a test, tried one after another.
use Rattle.std.proofs.Common.{◌≡◌, ℕ, zero, suc, ◌+◌, ◌<◌, ◌≤◌, Bool, true, false, List, [], ◌∷◌, length, Some, None, refl, sym, ap, ◌∙◌, subst, arith, inl, inr}
use Rattle.std.specs.Prelude.{position}
use Rattle.std.specs.List.{slice_get, position_from}
use Rattle.std.proofs.lemmas.Bool.{cases_lt}
use Rattle.std.proofs.lemmas.Iterator.Adapters.{position_from-zero}
use Rattle.std.proofs.lemmas.Option.{same_Some}

-- no item before number n passes
pub record NoneBefore {X : Type 0} (p : X → Bool) (xs : List X) (n : ℕ) : Type 0 where
  pub each : (k : ℕ) (x : X) → k < n → slice_get xs k ≡ Some x → p x ≡ false

pub none_start : {X : Type 0} (p : X → Bool) (xs : List X) → NoneBefore p xs 0
none_start p xs = record { each = λ k x h e. absurd (omega arith) }

fails_at : {X : Type 0} (p : X → Bool) (xs : List X) (k n : ℕ) (x y : X) → k ≡ n → slice_get xs n ≡ Some x → slice_get xs k ≡ Some y
    → p x ≡ false → p y ≡ false
fails_at p xs k n x y same is at fails = subst (λ z. p z ≡ false)
    (same_Some x y (sym is ∙ (ap (λ m. slice_get xs m) (sym same) ∙ at))) fails

pub none_more : {X : Type 0} (p : X → Bool) (xs : List X) (n : ℕ) (x : X) → NoneBefore p xs n → slice_get xs n ≡ Some x → p x ≡ false
    → NoneBefore p xs (n + 1)
none_more p xs n x before is fails = record {
  each = λ k y h e. elim (cases_lt k n) [ inl less ↦ before.each k y less e | inr more ↦ fails_at p xs k n x y (omega arith) is e fails ];
}

behind_first : {X : Type 0} (p : X → Bool) (y : X) (ys : List X) (n : ℕ) → NoneBefore p (y ∷ ys) (suc n) → NoneBefore p ys n
behind_first p y ys n before = record { each = λ k x h e. before.each (suc k) x (omega arith) e }

none_from : {X : Type 0} (p : X → Bool) (xs : List X) (i n : ℕ) → NoneBefore p xs n → length xs ≤ n → position_from p i xs ≡ None
none_from p [] i n before past = refl
none_from p (y ∷ ys) i zero before past = absurd (omega arith)
none_from p (y ∷ ys) i (suc n) before past =
    let first : p y ≡ false = before.each 0 y (omega arith) refl in
    rw first (none_from p ys (i + 1) n (behind_first p y ys n before) (omega arith))

found_from : {X : Type 0} (p : X → Bool) (xs : List X) (i n : ℕ) (x : X) → NoneBefore p xs n → slice_get xs n ≡ Some x → p x ≡ true
    → position_from p i xs ≡ Some (i + n)
found_from p [] i n x before is passes = absurd (cc)
found_from p (y ∷ ys) i zero x before is passes =
    let first : p y ≡ true = subst (λ z. p z ≡ true) (sym (same_Some y x is)) passes in
    let same : i ≡ i + 0 = omega arith in
    rw first (ap Some same)
found_from p (y ∷ ys) i (suc n) x before is passes =
    let first : p y ≡ false = before.each 0 y (omega arith) refl in
    let same : i + 1 + n ≡ i + suc n = omega arith in
    rw first (found_from p ys (i + 1) n x (behind_first p y ys n before) is passes ∙ ap Some same)

-- none passes
pub none_found : {X : Type 0} (p : X → Bool) (xs : List X) (n : ℕ) → NoneBefore p xs n → length xs ≤ n → None ≡ position p xs
none_found p xs n before past = sym (position_from-zero p xs ∙ none_from p xs 0 n before past)

-- the first that passes
pub one_found : {X : Type 0} (p : X → Bool) (xs : List X) (n : ℕ) (x : X) → NoneBefore p xs n → slice_get xs n ≡ Some x → p x ≡ true
    → Some n ≡ position p xs
one_found p xs n x before is passes =
    let same : 0 + n ≡ n = omega arith in
    sym (position_from-zero p xs ∙ found_from p xs 0 n x before is passes ∙ ap Some same)

pub ruleset searching = (none_start, none_more, none_found, one_found)
