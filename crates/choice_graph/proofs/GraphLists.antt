-- Lists one after the other, and lists that grow by a member.
use Rattle.std.proofs.Common.{◌≡◌, ℕ, zero, suc, ◌+◌, ◌<◌, ◌≤◌, ◌⊎◌, inl, inr, List, [], ◌∷◌, ◌++◌, length, slice_get, Option, Some, refl, sym, ◌∙◌, ap, subst, arith, length-append}
use Rattle.std.proofs.lemmas.Bool.{cases_lt}
use Rattle.std.proofs.lemmas.Option.{slice_get_within}
use Rattle.choice_graph.proofs.GraphOptions.{some_same}

pub get_before : {X : Type 0} (xs ys : List X) (k : ℕ) → k < length xs → slice_get (xs ++ ys) k ≡ slice_get xs k
get_before [] ys k l = absurd (omega arith)
get_before (x ∷ xs) ys zero l = refl
get_before (x ∷ xs) ys (suc k) l = get_before xs ys k (omega arith)

pub get_behind : {X : Type 0} (xs ys : List X) (n k : ℕ) → n ≡ length xs + k → slice_get (xs ++ ys) n ≡ slice_get ys k
get_behind [] ys n k e = let same : n ≡ k = omega arith in ap (slice_get ys) same
get_behind (x ∷ xs) ys zero k e = absurd (omega arith)
get_behind (x ∷ xs) ys (suc n) k e = get_behind xs ys n k (omega arith)

one_more : {X : Type 0} (count : ℕ) (xs ys : List X) (x : X) → length xs ≡ count → ys ≡ xs ++ (x ∷ []) → length ys ≡ count + 1
one_more count xs ys x long e = let size = length-append xs (x ∷ []) in ap length e ∙ size ∙ ap (λ (n : ℕ). n + 1) long

-- where a list has these members, and the next one is added, it has one more of them
pub list_more : {X : Type 0} (member : ℕ → Option X) (count : ℕ) (xs ys : List X) (x : X) → length xs ≡ count
    → ((n : ℕ) → n < count → slice_get xs n ≡ member n) → Some x ≡ member count → ys ≡ xs ++ (x ∷ [])
    → (length ys ≡ count + 1) × ((n : ℕ) → n < count + 1 → slice_get ys n ≡ member n)
list_more {X} member count xs ys x long each next e = (one_more count xs ys x long e, λ n low. by_place n low (cases_lt n count))
  where
    by_place : (n : ℕ) → n < count + 1 → (n < count) ⊎ (count ≤ n) → slice_get ys n ≡ member n
    by_place n low (inl less) =
        ap (λ (zs : List X). slice_get zs n) e ∙ get_before xs (x ∷ []) n (omega (arith, less, long)) ∙ each n less
    by_place n low (inr least) =
        let same : n ≡ count = omega (arith, low, least) in
        ap (λ (zs : List X). slice_get zs n) e ∙ get_behind xs (x ∷ []) n 0 (omega (arith, same, long)) ∙ next ∙ ap member (sym same)

-- what holds of each member, and of the one that is added, holds of each of the longer list
pub each_more : {X : Type 0} (Holds : ℕ → X → Type 0) (count : ℕ) (xs ys : List X) (x : X) → length xs ≡ count
    → ((n : ℕ) (y : X) → slice_get xs n ≡ Some y → Holds n y) → Holds count x → ys ≡ xs ++ (x ∷ [])
    → (length ys ≡ count + 1) × ((n : ℕ) (y : X) → slice_get ys n ≡ Some y → Holds n y)
each_more {X} Holds count xs ys x long each next e =
    (sized, λ n y at. by_place n y at (slice_get_within ys n y at) (cases_lt n count))
  where
    sized : length ys ≡ count + 1
    sized = one_more count xs ys x long e

    by_place : (n : ℕ) (y : X) → slice_get ys n ≡ Some y → n < length ys → (n < count) ⊎ (count ≤ n) → Holds n y
    by_place n y at within (inl less) =
        each n y (sym (get_before xs (x ∷ []) n (omega (arith, less, long))) ∙ sym (ap (λ (zs : List X). slice_get zs n) e) ∙ at)
    by_place n y at within (inr least) =
        let long_now = sized in
        let same : n ≡ count = omega (arith, within, least, long_now) in
        let is : x ≡ y
        = some_same x y
        (sym (get_behind xs (x ∷ []) n 0 (omega (arith, same, long))) ∙ sym (ap (λ (zs : List X). slice_get zs n) e) ∙ at) in
        subst (λ (z : X). Holds n z) is (subst (λ (k : ℕ). Holds k x) (sym same) next)
