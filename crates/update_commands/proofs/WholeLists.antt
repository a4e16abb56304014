-- Lists in which one element is another, or that have more behind them.
use Rattle.std.proofs.Common.{◌≡◌, ◌≢◌, ℕ, zero, suc, ◌+◌, ◌<◌, List, [], ◌∷◌, ◌++◌, length, slice_get, slice_set, Some, refl, ap, arith}

pub set_here : {X : Type 0} → (xs : List X) (i : ℕ) (y : X) → i < length xs → slice_get (slice_set xs i y) i ≡ Some y
set_here [] i y within = absurd (omega (arith, within))
set_here (x ∷ xs) zero y within = refl
set_here (x ∷ xs) (suc i) y within = set_here xs i y (omega (arith, within))

pub set_elsewhere : {X : Type 0} → (xs : List X) (i j : ℕ) (y : X) → i ≢ j → slice_get (slice_set xs i y) j ≡ slice_get xs j
set_elsewhere [] i j y apart = refl
set_elsewhere (x ∷ xs) zero zero y apart = absurd (apart refl)
set_elsewhere (x ∷ xs) zero (suc j) y apart = refl
set_elsewhere (x ∷ xs) (suc i) zero y apart = refl
set_elsewhere (x ∷ xs) (suc i) (suc j) y apart = set_elsewhere xs i j y (λ e. apart (ap suc e))

pub get_front : {X : Type 0} → (xs ys : List X) (n : ℕ) (x : X) → slice_get xs n ≡ Some x → slice_get (xs ++ ys) n ≡ Some x
get_front [] ys n x h = absurd (cc)
get_front (z ∷ xs) ys zero x h = h
get_front (z ∷ xs) ys (suc n) x h = get_front xs ys n x h

pub get_seam : {X : Type 0} → (xs : List X) (y : X) (n : ℕ) → n ≡ length xs → slice_get (xs ++ y ∷ []) n ≡ Some y
get_seam [] y zero e = refl
get_seam [] y (suc n) e = absurd (omega (arith, e))
get_seam (x ∷ xs) y zero e = absurd (omega (arith, e))
get_seam (x ∷ xs) y (suc n) e = get_seam xs y n (omega (arith, e))
