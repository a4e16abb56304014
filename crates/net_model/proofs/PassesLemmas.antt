-- Tests of the items of a list, each beside those before it, and what they come to over the whole list.
use Rattle.std.proofs.Common.{◌≡◌, ◌+◌, Bool, true, false, ◌&&◌, ◌||◌, not, List, [], ◌∷◌, ◌++◌, length, refl, sym, ap, ◌∙◌, append_assoc, append-nil}
use Rattle.std.proofs.lemmas.Bool.{and_parts}
use Rattle.std.proofs.lemmas.List.Folds.{list_any-append}
use Rattle.std.specs.List.{list_any, list_all}
use Rattle.std.specs.Result.{is_ok}
use Rattle.std.specs.Prelude.{Result, Ok, Err}
use Rattle.text_faults.specs.declared.text_place.TableKind.{TableKind}
use Rattle.text_faults.specs.declared.text_place.FaultPlace.{FaultPlace}
use Rattle.text_faults.specs.declared.fault.TextFault.{TextFault}
use Rattle.net_model.specs.NetworkRules.{are_distinct}
use Rattle.net_model.specs.NetworkJudging.{and_then, judged, stands_before}

-- each item passes a test beside those before it
abbrev pub passes : {X : Type 0} → (List X → X → Bool) → List X → List X → Bool
passes test before [] = true
passes test before (x ∷ xs) = test before x && passes test (before ++ x ∷ []) xs

pub and_then_ok : (r next : Result (Unit {0}) TextFault) → is_ok (and_then r next) ≡ (is_ok r && is_ok next)
and_then_ok (Ok u) next = refl
and_then_ok (Err fault) next = refl

pub then_ok : (r next : Result (Unit {0}) TextFault) (a b : Bool) → is_ok r ≡ a → is_ok next ≡ b → is_ok (and_then r next) ≡ (a && b)
then_ok r next a b e f = and_then_ok r next ∙ (ap (λ c. c && is_ok next) e ∙ ap (λ c. a && c) f)

-- there is no fault exactly where each item passes
pub judged_passes : {X : Type 0} (table : TableKind) (judge : List X → FaultPlace → X → Result (Unit {0}) TextFault)
    (test : List X → X → Bool) → ((before : List X) (p : FaultPlace) (x : X) → is_ok (judge before p x) ≡ test before x)
    → (before xs : List X) → is_ok (judged table judge before xs) ≡ passes test before xs
judged_passes table judge test each before [] = refl
judged_passes table judge test each before (x ∷ xs) =
    let p : FaultPlace = record { table = table; item = length before + 1 } in
    and_then_ok (judge before p x) (judged table judge (before ++ x ∷ []) xs)
    ∙ (ap (λ b. b && is_ok (judged table judge (before ++ x ∷ []) xs)) (each before p x)
    ∙ ap (λ b. test before x && b) (judged_passes table judge test each (before ++ x ∷ []) xs))

-- the same of a list of items in range
pub judged_passes_within : {X : Type 0} (table : TableKind) (judge : List X → FaultPlace → X → Result (Unit {0}) TextFault)
    (range : X → Bool) (test : List X → X → Bool)
    → ((before : List X) (p : FaultPlace) (x : X) → range x ≡ true → is_ok (judge before p x) ≡ test before x)
    → (before xs : List X) → list_all range xs ≡ true → is_ok (judged table judge before xs) ≡ passes test before xs
judged_passes_within table judge range test each before [] h = refl
judged_passes_within table judge range test each before (x ∷ xs) h =
    let parts = and_parts _ _ h in
    let p : FaultPlace = record { table = table; item = length before + 1 } in
    and_then_ok (judge before p x) (judged table judge (before ++ x ∷ []) xs)
    ∙ (ap (λ b. b && is_ok (judged table judge (before ++ x ∷ []) xs)) (each before p x parts.0)
    ∙ ap (λ b. test before x && b) (judged_passes_within table judge range test each (before ++ x ∷ []) xs parts.1))

four_and : (a b c d : Bool) → ((a && b) && (c && d)) ≡ ((a && c) && (b && d))
four_and true true c d = refl
four_and true false true d = refl
four_and true false false d = refl
four_and false b c d = refl

pub passes_both : {X : Type 0} (p q : List X → X → Bool) (before xs : List X)
    → passes (λ ys x. p ys x && q ys x) before xs ≡ (passes p before xs && passes q before xs)
passes_both p q before [] = refl
passes_both p q before (x ∷ xs) =
    ap (λ b. (p before x && q before x) && b) (passes_both p q (before ++ x ∷ []) xs)
    ∙ four_and (p before x) (q before x) (passes p (before ++ x ∷ []) xs) (passes q (before ++ x ∷ []) xs)

-- a test of the item alone
pub passes_all : {X : Type 0} (q : X → Bool) (before xs : List X) → passes (λ ys x. q x) before xs ≡ list_all q xs
passes_all q before [] = refl
passes_all q before (x ∷ xs) = ap (λ b. q x && b) (passes_all q (before ++ x ∷ []) xs)

add_last : (s a b d : Bool) → (not (a || (s || false)) && (d && not b)) ≡ ((not a && d) && not (s || b))
add_last s true b d = refl
add_last true false b true = refl
add_last true false b false = refl
add_last false false b d = refl

distinct_last : {X : Type 0} (same : X → X → Bool) (ys : List X) (x : X)
    → are_distinct same (ys ++ x ∷ []) ≡ (are_distinct same ys && not (stands_before same ys x))
distinct_last same [] x = refl
distinct_last same (y ∷ ys) x =
    ap (λ b. not b && are_distinct same (ys ++ x ∷ [])) (list_any-append (same y) ys (x ∷ []))
    ∙ (ap (λ b. not (list_any (same y) ys || (same y x || false)) && b) (distinct_last same ys x)
    ∙ add_last (same y x) (list_any (same y) ys) (stands_before same ys x) (are_distinct same ys))

and_assoc : (a b c : Bool) → ((a && b) && c) ≡ (a && (b && c))
and_assoc true b c = refl
and_assoc false b c = refl

and_one : (a : Bool) → a ≡ (a && true)
and_one true = refl
and_one false = refl

-- no item is the same as an earlier one exactly where no two are
distinct_passes : {X : Type 0} (same : X → X → Bool) (ys xs : List X)
    → are_distinct same (ys ++ xs) ≡ (are_distinct same ys && passes (λ before x. not (stands_before same before x)) ys xs)
distinct_passes same ys [] = ap (are_distinct same) (append-nil ys) ∙ and_one (are_distinct same ys)
distinct_passes same ys (x ∷ xs) =
    let more = passes (λ before z. not (stands_before same before z)) (ys ++ x ∷ []) xs in
    ap (are_distinct same) (sym (append_assoc ys (x ∷ []) xs))
    ∙ (distinct_passes same (ys ++ x ∷ []) xs
    ∙ (ap (λ b. b && more) (distinct_last same ys x)
    ∙ and_assoc (are_distinct same ys) (not (stands_before same ys x)) more))

pub passes_distinct : {X : Type 0} (same : X → X → Bool) (xs : List X)
    → passes (λ before x. not (stands_before same before x)) [] xs ≡ are_distinct same xs
passes_distinct same xs = sym (distinct_passes same [] xs)

-- a table whose items have a test of their own, and are distinct in one way
pub judged_table : {X : Type 0} (table : TableKind) (judge : List X → FaultPlace → X → Result (Unit {0}) TextFault) (test : X → Bool)
    (same : X → X → Bool)
    → ((before : List X) (p : FaultPlace) (x : X) → is_ok (judge before p x) ≡ (test x && not (stands_before same before x)))
    → (xs : List X) → is_ok (judged table judge [] xs) ≡ (list_all test xs && are_distinct same xs)
judged_table table judge test same each xs =
    judged_passes table judge (λ before x. test x && not (stands_before same before x)) each [] xs
    ∙ (passes_both (λ before x. test x) (λ before x. not (stands_before same before x)) [] xs
    ∙ (ap (λ b. b && passes (λ before x. not (stands_before same before x)) [] xs) (passes_all test [] xs)
    ∙ ap (λ b. list_all test xs && b) (passes_distinct same xs)))

-- tests that agree on items in range agree on lists of them
pub list_all_within : {X : Type 0} (range p q : X → Bool) → ((x : X) → range x ≡ true → p x ≡ q x) → (xs : List X)
    → list_all range xs ≡ true → list_all p xs ≡ list_all q xs
list_all_within range p q each [] h = refl
list_all_within range p q each (x ∷ xs) h =
    let parts = and_parts _ _ h in
    ap (λ b. b && list_all p xs) (each x parts.0) ∙ ap (λ b. q x && b) (list_all_within range p q each xs parts.1)

-- what is true may be left out in front
pub left_out : (a b : Bool) → a ≡ true → (a && b) ≡ b
left_out a b h = ap (λ c. c && b) h

pub left_out_behind : (a b : Bool) → b ≡ true → (a && b) ≡ a
left_out_behind a b h = ap (λ c. a && c) h ∙ sym (and_one a)
