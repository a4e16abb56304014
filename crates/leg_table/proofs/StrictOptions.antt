-- What it takes for options to be there, and what stands at a place of a list.
use Rattle.std.proofs.Common.{◌≡◌, ℕ, zero, suc, ◌<◌, Bool, true, false, if◌then◌else◌, List, [], ◌∷◌, ◌++◌, length, drop, slice_get, Option, Some, None, refl, sym, ◌∙◌, ap, arith, length-append}
use Rattle.std.specs.Option.{option_map, option_and_then}
use Rattle.std.proofs.lemmas.List.{get_or_push}
use Rattle.std.proofs.lemmas.Option.{slice_get-get_or}
use Rattle.std.proofs.Math.ListN.{get_or-append}

pub map_some : {X Y : Type 0} (f : X → Y) (o : Option X) (y : Y) → option_map f o ≡ Some y → (x : X) × (o ≡ Some x) × (f x ≡ y)
map_some f None y h = absurd (cc)
map_some f (Some x) y h = (x, refl, cc)

pub then_some : {X Y : Type 0} (f : X → Option Y) (o : Option X) (y : Y) → option_and_then f o ≡ Some y
    → (x : X) × (o ≡ Some x) × (f x ≡ Some y)
then_some f None y h = absurd (cc)
then_some f (Some x) y h = (x, refl, h)

pub if_some : {X : Type 0} (t : Bool) (o : Option X) (y : X) → (if t then o else None) ≡ Some y → (t ≡ true) × (o ≡ Some y)
if_some true o y h = (refl, h)
if_some false o y h = absurd (cc)

pub some_same : {X : Type 0} (x y : X) → Path (Option X) (Some x) (Some y) → x ≡ y
some_same x y h = cc

pub get_pushed : {X : Type 0} (xs : List X) (x : X) (n : ℕ) → n ≡ length xs → slice_get (xs ++ x ∷ []) n ≡ Some x
get_pushed xs x n e =
    let len = length-append xs (x ∷ []) in
    slice_get-get_or (xs ++ x ∷ []) n x (omega (arith, len, e)) ∙ ap Some (get_or_push xs x x n (sym e))

pub get_before : {X : Type 0} (xs : List X) (x : X) (n : ℕ) → n < length xs → slice_get (xs ++ x ∷ []) n ≡ slice_get xs n
get_before xs x n h =
    let len = length-append xs (x ∷ []) in
    slice_get-get_or (xs ++ x ∷ []) n x (omega (arith, len, h)) ∙ ap Some (get_or-append xs (x ∷ []) x n h)
    ∙ sym (slice_get-get_or xs n x h)

pub drop_first : {X : Type 0} (xs : List X) (n : ℕ) (x : X) (ys : List X) → drop n xs ≡ x ∷ ys
    → (slice_get xs n ≡ Some x) × (drop (suc n) xs ≡ ys)
drop_first [] zero x ys e = absurd (cc)
drop_first [] (suc n) x ys e = absurd (cc)
drop_first (y ∷ xs) zero x ys e = (cc, cc)
drop_first (y ∷ xs) (suc n) x ys e = drop_first xs n x ys e

-- what is kept without marks: some where a test holds
abbrev pub kept_if : Bool → Option (List ℕ)
kept_if b = if b then Some [] else None

pub kept_parts : (b : Bool) (marks : List ℕ) → kept_if b ≡ Some marks → (b ≡ true) × (marks ≡ [])
kept_parts true marks h = (refl, cc)
kept_parts false marks h = cc

pub kept_from : (b : Bool) → b ≡ true → kept_if b ≡ Some []
kept_from b e = ap kept_if e

pub kept_same : (a b : Bool) → a ≡ b → kept_if a ≡ option_map (λ (marks : List ℕ). [] ++ marks) (kept_if b)
kept_same a true e = ap kept_if e
kept_same a false e = ap kept_if e
