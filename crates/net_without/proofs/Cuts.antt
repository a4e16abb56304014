-- Lists of which some items are left, each cut.
use Rattle.std.proofs.Common.{◌≡◌, ℕ, ◌≤◌, ◌==◌, Bool, true, false, not, cond, ◌&&◌, ◌||◌, Option, List, [], ◌∷◌, ◌++◌, length, map, refl, ap, ap₂, ◌∙◌, append_assoc, arith}
use Rattle.std.proofs.lemmas.Bool.{and_parts, and_from, both_ways, ne_eqb}
use Rattle.std.proofs.lemmas.List.{length-map}
use Rattle.std.proofs.lemmas.List.Sums.{length-filter, count_by-le-length}
use Rattle.std.specs.List.{filter, filter_map, cons_option, list_any, list_all, count_by}
use Rattle.net_model.specs.NetworkRules.{are_distinct}
use Rattle.net_without.specs.Without.{is_left}

pub filter_le : {X : Type 0} (keep : X → Bool) (xs : List X) → length (filter keep xs) ≤ length xs
filter_le keep xs = let e = length-filter keep xs in let le = count_by-le-length keep xs in omega (arith, e, le)

pub cut_le : {X : Type 0} (f : X → X) (keep : X → Bool) (xs : List X) → length (map f (filter keep xs)) ≤ length xs
cut_le f keep xs = let e = length-map (filter keep xs) f in let le = filter_le keep xs in omega (arith, e, le)

-- where an item passes, some are left
pub some_left : {X : Type 0} (keep : X → Bool) (xs : List X) → list_any keep xs ≡ true → 1 ≤ length (filter keep xs)
some_left keep [] any = absurd (both_ways false refl any)
some_left keep (x ∷ xs) any =
    elim (keep x) as (λ b. (b || list_any keep xs) ≡ true → 1 ≤ length (cond b (x ∷ filter keep xs) (filter keep xs)))
    [ true ↦ λ h. omega arith | false ↦ λ h. some_left keep xs h ] any

-- what holds of all items that are left, once they are cut
pub all_cut : {X : Type 0} (p keep q : X → Bool) (f : X → X) → ((x : X) → p x ≡ true → keep x ≡ true → q (f x) ≡ true) → (xs : List X)
    → list_all p xs ≡ true → list_all q (map f (filter keep xs)) ≡ true
all_cut p keep q f step [] all = refl
all_cut p keep q f step (x ∷ xs) all =
    let parts = and_parts _ _ all in
    let rest = all_cut p keep q f step xs parts.1 in
    let here : (b : Bool) → keep x ≡ b → list_all q (map f (cond b (x ∷ filter keep xs) (filter keep xs))) ≡ true =
    elim [ true ↦ λ e. and_from _ _ (step x parts.0 e) rest | false ↦ λ e. rest ] in
    here (keep x) refl

-- a cut that leaves what items agree in leaves how they agree
any_cut : {X : Type 0} (same : X → X → Bool) (f : X → X) → ((x y : X) → same (f x) (f y) ≡ same x y) → (x : X) (ys : List X)
    → list_any (same (f x)) (map f ys) ≡ list_any (same x) ys
any_cut same f agree x [] = refl
any_cut same f agree x (y ∷ ys) = ap₂ (λ a b. a || b) (agree x y) (any_cut same f agree x ys)

pub distinct_cut : {X : Type 0} (same : X → X → Bool) (f : X → X) → ((x y : X) → same (f x) (f y) ≡ same x y) → (xs : List X)
    → are_distinct same (map f xs) ≡ are_distinct same xs
distinct_cut same f agree [] = refl
distinct_cut same f agree (x ∷ xs) = ap₂ (λ a b. not a && b) (any_cut same f agree x xs) (distinct_cut same f agree xs)

-- what items give stays where the cut leaves it
pub given_cut : {X Y : Type 0} (g : X → Option Y) (f : X → X) → ((x : X) → g (f x) ≡ g x) → (xs : List X) → filter_map g (map f xs) ≡ filter_map g xs
given_cut g f same [] = refl
given_cut g f same (x ∷ xs) = ap₂ (λ o l. cons_option o l) (same x) (given_cut g f same xs)

-- no more items count once some are left out
both_more : {X : Type 0} (b : Bool) (y x : X) (ys xs : List X) → length ys ≤ length xs → length (cond b (y ∷ ys) ys) ≤ length (cond b (x ∷ xs) xs)
both_more true y x ys xs le = omega (arith, le)
both_more false y x ys xs le = le

one_more : {X : Type 0} (b : Bool) (x : X) (ys xs : List X) → length ys ≤ length xs → length ys ≤ length (cond b (x ∷ xs) xs)
one_more true x ys xs le = omega (arith, le)
one_more false x ys xs le = le

fewer : {X : Type 0} (p keep : X → Bool) (f : X → X) → ((x : X) → p (f x) ≡ p x) → (xs : List X)
    → length (filter p (map f (filter keep xs))) ≤ length (filter p xs)
fewer p keep f same [] = omega arith
fewer p keep f same (x ∷ xs) =
    let rest = fewer p keep f same xs in
    let ys = filter p (map f (filter keep xs)) in
    elim (keep x) as (λ b. length (filter p (map f (cond b (x ∷ filter keep xs) (filter keep xs)))) ≤ length (cond (p x) (x ∷ filter p xs) (filter p xs))) [
      | true ↦ rw (same x) (both_more (p x) (f x) x ys (filter p xs) rest)
      | false ↦ one_more (p x) x ys (filter p xs) rest
    ]

pub count_cut : {X : Type 0} (p keep : X → Bool) (f : X → X) → ((x : X) → p (f x) ≡ p x) → (xs : List X) → count_by p (map f (filter keep xs)) ≤ count_by p xs
count_cut p keep f same xs =
    let here = length-filter p (map f (filter keep xs)) in
    let all = length-filter p xs in
    let le = fewer p keep f same xs in omega (arith, here, all, le)

-- one more at the end, and then the rest
pub pushed_one : {X : Type 0} (xs ys zs ws : List X) (x y : X) → y ≡ x → ys ≡ xs ++ y ∷ [] → xs ++ (x ∷ zs) ≡ ws → ys ++ zs ≡ ws
pushed_one xs ys zs ws x y same e h =
    ap (λ l. l ++ zs) (e ∙ ap (λ z. xs ++ z ∷ []) same) ∙ (append_assoc xs (x ∷ []) zs ∙ h)

-- ---- a set that is empty, or isn't

is_some : (n : ℕ) (set : List ℕ) → (length (n ∷ set) == 0) ≡ false
is_some n set = ne_eqb (length (n ∷ set)) 0 (λ e. omega (arith, e))

pub left_empty : (up : ℕ → Bool) (set : List ℕ) (b : Bool) → b ≡ (length set == 0) → b ≡ true → true ≡ is_left up set
left_empty up [] b e there = refl
left_empty up (n ∷ set) b e there = absurd (both_ways b (e ∙ is_some n set) there)

pub left_some : (up : ℕ → Bool) (set : List ℕ) (b : Bool) → b ≡ (length set == 0) → b ≡ false → list_any up set ≡ is_left up set
left_some up [] b e there = absurd (both_ways b there e)
left_some up (n ∷ set) b e there = refl
