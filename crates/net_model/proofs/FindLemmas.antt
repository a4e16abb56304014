-- The first item that passes a test, and items at their places.
use Rattle.std.proofs.Common.{◌≡◌, ℕ, zero, suc, ◌<◌, Bool, true, false, List, [], ◌∷◌, length, Some, None, refl, sym, ap, subst, arith, inl, inr}
use Rattle.std.specs.List.{slice_get, find, Contains}
use Rattle.std.proofs.lemmas.Bool.{cases_Bool}
use Rattle.std.proofs.lemmas.Option.{same_Some, slice_get_read, slice_get_within, get_or_from_slice_get}

-- the first item that passes a test stands at a place, and those before it fail
abbrev pub IsFirstPassing : {X : Type 0} → (X → Bool) → List X → X → Type 0
IsFirstPassing {X} p xs x = (j : ℕ) × (slice_get xs j ≡ Some x) × (p x ≡ true) × ((k : ℕ) (y : X) → k < j → slice_get xs k ≡ Some y
    → p y ≡ false)

first_later : {X : Type 0} (p : X → Bool) (y : X) (ys : List X) (x : X) → p y ≡ false → IsFirstPassing p ys x → IsFirstPassing p (y ∷ ys) x
first_later p y ys x fails (j, at, passes, before) =
    (suc j, at, passes, earlier)
  where
    earlier : (k : ℕ) (z : _) → k < suc j → slice_get (y ∷ ys) k ≡ Some z → p z ≡ false
    earlier zero z below e = subst (λ w. p w ≡ false) (same_Some y z e) fails
    earlier (suc k) z below e = before k z (omega arith) e

pub find_first : {X : Type 0} (p : X → Bool) (xs : List X) (x : X) → find p xs ≡ Some x → IsFirstPassing p xs x
find_first p [] x e = cc
find_first p (y ∷ ys) x e =
    elim (cases_Bool (p y)) [
      | inl passes ↦ let same = same_Some y x (rw passes at e) in
          (0, ap Some same, subst (λ z. p z ≡ true) same passes, λ k z below. absurd (omega arith))
      | inr fails ↦ first_later p y ys x fails (find_first p ys x (rw fails at e))
    ]

pub find_none : {X : Type 0} (p : X → Bool) (xs : List X) → find p xs ≡ None → (k : ℕ) (x : X) → slice_get xs k ≡ Some x → p x ≡ false
find_none p [] e k x at = cc
find_none p (y ∷ ys) e zero x at =
    elim (cases_Bool (p y)) [
      | inl passes ↦ absurd (let none = rw passes at e in cc)
      | inr fails ↦
          subst (λ z. p z ≡ false) (same_Some y x at) fails
    ]
find_none p (y ∷ ys) e (suc k) x at =
    elim (cases_Bool (p y)) [ inl passes ↦ absurd (let none = rw passes at e in cc) | inr fails ↦ find_none p ys (rw fails at e) k x at ]

pub get_from_contains : {X : Type 0} (xs : List X) (x : X) → Contains xs x → (k : ℕ) × (slice_get xs k ≡ Some x)
get_from_contains xs x c = (c.0, slice_get_read xs (length xs) c.0 x refl c.1 (sym c.2))

pub contains_from_get : {X : Type 0} (xs : List X) (k : ℕ) (x : X) → slice_get xs k ≡ Some x → Contains xs x
contains_from_get xs k x e = (k, slice_get_within xs k x e, get_or_from_slice_get xs k x x e)
