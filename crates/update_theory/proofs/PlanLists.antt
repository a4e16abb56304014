-- Lists whose items pass or fail tests, and their parts.
use Rattle.std.proofs.Common.{◌≡◌, ℕ, zero, suc, Bool, true, false, not, cond, List, [], ◌∷◌, ◌++◌, length, Option, Some, None, refl, sym, ap, subst}
use Rattle.std.proofs.lemmas.Bool.{and_parts, and_from, or_parts, or_from, or_left, or_right, not-true, both_ways, false_from_ne_true}
use Rattle.std.proofs.lemmas.Option.{same_Some}
use Rattle.std.specs.List.{filter, filter_map, cons_option, list_any, list_all, slice_get}
use Rattle.net_model.specs.NetworkRules.{are_distinct}

pub all_append : {X : Type 0} (p : X → Bool) (xs ys : List X) → list_all p xs ≡ true → list_all p ys ≡ true → list_all p (xs ++ ys) ≡ true
all_append p [] ys h k = k
all_append p (x ∷ xs) ys h k = let parts = and_parts _ _ h in and_from _ _ parts.0 (all_append p xs ys parts.1 k)

pub all_more : {X : Type 0} (p q : X → Bool) → ((x : X) → p x ≡ true → q x ≡ true) → (xs : List X) → list_all p xs ≡ true
    → list_all q xs ≡ true
all_more p q f [] h = refl
all_more p q f (x ∷ xs) h = let parts = and_parts _ _ h in and_from _ _ (f x parts.0) (all_more p q f xs parts.1)

pub all_filter : {X : Type 0} (p keep : X → Bool) (xs : List X) → list_all p xs ≡ true → list_all p (filter keep xs) ≡ true
all_filter p keep [] h = refl
all_filter p keep (x ∷ xs) h =
    let parts = and_parts _ _ h in
    elim (keep x) as (λ b. list_all p (cond b (x ∷ filter keep xs) (filter keep xs)) ≡ true)
    [ true ↦ and_from _ _ parts.0 (all_filter p keep xs parts.1) | false ↦ all_filter p keep xs parts.1 ]

pub none_append : {X : Type 0} (p : X → Bool) (xs ys : List X) → list_any p xs ≡ false → list_any p ys ≡ false
    → list_any p (xs ++ ys) ≡ false
none_append p [] ys h k = k
none_append p (x ∷ xs) ys h k = let parts = or_parts _ _ h in or_from _ _ parts.0 (none_append p xs ys parts.1 k)

pub none_parts : {X : Type 0} (p : X → Bool) (xs ys : List X) → list_any p (xs ++ ys) ≡ false
    → (list_any p xs ≡ false) × (list_any p ys ≡ false)
none_parts p [] ys h = (refl, h)
none_parts p (x ∷ xs) ys h =
    let parts = or_parts _ _ h in
    let rest = none_parts p xs ys parts.1 in
    (or_from _ _ parts.0 rest.0, rest.1)

pub none_filter : {X : Type 0} (p keep : X → Bool) (xs : List X) → list_any p xs ≡ false → list_any p (filter keep xs) ≡ false
none_filter p keep [] h = refl
none_filter p keep (x ∷ xs) h =
    let parts = or_parts _ _ h in
    elim (keep x) as (λ b. list_any p (cond b (x ∷ filter keep xs) (filter keep xs)) ≡ false)
    [ true ↦ or_from _ _ parts.0 (none_filter p keep xs parts.1) | false ↦ none_filter p keep xs parts.1 ]

pub distinct_filter : {X : Type 0} (same : X → X → Bool) (keep : X → Bool) (xs : List X) → are_distinct same xs ≡ true
    → are_distinct same (filter keep xs) ≡ true
distinct_filter same keep [] h = refl
distinct_filter same keep (x ∷ xs) h =
    let parts = and_parts _ _ h in
    elim (keep x) as (λ b. are_distinct same (cond b (x ∷ filter keep xs) (filter keep xs)) ≡ true) [
      | true ↦ and_from _ _ (ap not (none_filter (same x) keep xs (not-true _ parts.0))) (distinct_filter same keep xs parts.1)
      | false ↦ distinct_filter same keep xs parts.1
    ]

-- lists of distinct items, none of one of which agrees with one of the other
pub distinct_append : {X : Type 0} (same : X → X → Bool) (xs ys : List X) → are_distinct same xs ≡ true → are_distinct same ys ≡ true
    → list_any (λ x. list_any (same x) ys) xs ≡ false → are_distinct same (xs ++ ys) ≡ true
distinct_append same [] ys h k across = k
distinct_append same (x ∷ xs) ys h k across =
    let parts = and_parts _ _ h in
    let none = or_parts _ _ across in
    and_from _ _ (ap not (none_append (same x) xs ys (not-true _ parts.0) none.0)) (distinct_append same xs ys parts.1 k none.1)

-- ---- what some items give

none_given : {X Y : Type 0} (f : X → Option Y) (p : Y → Bool) (keep : X → Bool) (xs : List X) → list_any p (filter_map f xs) ≡ false
    → list_any p (filter_map f (filter keep xs)) ≡ false
none_given f p keep [] h = refl
none_given f p keep (x ∷ xs) h =
    let rest = none_given f p keep xs (none_behind p (f x) (filter_map f xs) h) in
    elim (keep x) as (λ b. list_any p (filter_map f (cond b (x ∷ filter keep xs) (filter keep xs))) ≡ false)
    [ true ↦ none_with p (f x) (filter_map f xs) (filter_map f (filter keep xs)) h rest | false ↦ rest ]
  where
    none_behind : {Y : Type 0} (p : Y → Bool) (o : Option Y) (ys : List Y) → list_any p (cons_option o ys) ≡ false → list_any p ys ≡ false
    none_behind p None ys h = h
    none_behind p (Some y) ys h = (or_parts _ _ h).1

    none_with : {Y : Type 0} (p : Y → Bool) (o : Option Y) (ys zs : List Y) → list_any p (cons_option o ys) ≡ false
        → list_any p zs ≡ false → list_any p (cons_option o zs) ≡ false
    none_with p None ys zs h k = k
    none_with p (Some y) ys zs h k = or_from _ _ (or_parts _ _ h).0 k

pub distinct_given : {X Y : Type 0} (f : X → Option Y) (same : Y → Y → Bool) (keep : X → Bool) (xs : List X)
    → are_distinct same (filter_map f xs) ≡ true → are_distinct same (filter_map f (filter keep xs)) ≡ true
distinct_given f same keep [] h = refl
distinct_given f same keep (x ∷ xs) h =
    let rest = distinct_given f same keep xs (distinct_behind same (f x) (filter_map f xs) h) in
    elim (keep x) as (λ b. are_distinct same (filter_map f (cond b (x ∷ filter keep xs) (filter keep xs))) ≡ true)
    [ true ↦ distinct_with f same keep xs (f x) h rest | false ↦ rest ]
  where
    distinct_behind : {Y : Type 0} (same : Y → Y → Bool) (o : Option Y) (ys : List Y) → are_distinct same (cons_option o ys) ≡ true
        → are_distinct same ys ≡ true
    distinct_behind same None ys h = h
    distinct_behind same (Some y) ys h = (and_parts _ _ h).1

    distinct_with : {X Y : Type 0} (f : X → Option Y) (same : Y → Y → Bool) (keep : X → Bool) (xs : List X) (o : Option Y)
        → are_distinct same (cons_option o (filter_map f xs)) ≡ true
        → are_distinct same (filter_map f (filter keep xs)) ≡ true
        → are_distinct same (cons_option o (filter_map f (filter keep xs))) ≡ true
    distinct_with f same keep xs None h k = k
    distinct_with f same keep xs (Some y) h k =
        and_from _ _ (ap not (none_given f (same y) keep xs (not-true _ (and_parts _ _ h).0))) k

pub all_given : {X Y : Type 0} (f : X → Option Y) (p : Y → Bool) (keep : X → Bool) (xs : List X) → list_all p (filter_map f xs) ≡ true
    → list_all p (filter_map f (filter keep xs)) ≡ true
all_given f p keep [] h = refl
all_given f p keep (x ∷ xs) h =
    let rest = all_given f p keep xs (all_behind p (f x) (filter_map f xs) h) in
    elim (keep x) as (λ b. list_all p (filter_map f (cond b (x ∷ filter keep xs) (filter keep xs))) ≡ true)
    [ true ↦ all_with p (f x) (filter_map f xs) (filter_map f (filter keep xs)) h rest | false ↦ rest ]
  where
    all_behind : {Y : Type 0} (p : Y → Bool) (o : Option Y) (ys : List Y) → list_all p (cons_option o ys) ≡ true → list_all p ys ≡ true
    all_behind p None ys h = h
    all_behind p (Some y) ys h = (and_parts _ _ h).1

    all_with : {Y : Type 0} (p : Y → Bool) (o : Option Y) (ys zs : List Y) → list_all p (cons_option o ys) ≡ true
        → list_all p zs ≡ true → list_all p (cons_option o zs) ≡ true
    all_with p None ys zs h k = k
    all_with p (Some y) ys zs h k = and_from _ _ (and_parts _ _ h).0 k

-- ---- items by their places

pub get_front : {X : Type 0} (xs ys : List X) (n : ℕ) (x : X) → slice_get xs n ≡ Some x → slice_get (xs ++ ys) n ≡ Some x
get_front [] ys n x h = cc
get_front (y ∷ xs) ys zero x h = h
get_front (y ∷ xs) ys (suc n) x h = get_front xs ys n x h

pub get_seam : {X : Type 0} (xs : List X) (y : X) (ys : List X) → slice_get (xs ++ y ∷ ys) (length xs) ≡ Some y
get_seam [] y ys = refl
get_seam (x ∷ xs) y ys = get_seam xs y ys

pub any_at : {X : Type 0} (p : X → Bool) (xs : List X) (n : ℕ) (x : X) → slice_get xs n ≡ Some x → p x ≡ true → list_any p xs ≡ true
any_at p [] n x at h = cc
any_at p (y ∷ xs) zero x at h = or_left _ _ (subst (λ z. p z ≡ true) (sym (same_Some y x at)) h)
any_at p (y ∷ xs) (suc n) x at h = or_right _ _ (any_at p xs n x at h)

pub none_less : {X : Type 0} (p q : X → Bool) → ((x : X) → q x ≡ true → p x ≡ true) → (xs : List X) → list_any p xs ≡ false
    → list_any q xs ≡ false
none_less p q f [] h = refl
none_less p q f (x ∷ xs) h =
    let parts = or_parts _ _ h in
    or_from _ _ (false_from_ne_true (q x) (λ e. both_ways _ parts.0 (f x e))) (none_less p q f xs parts.1)
