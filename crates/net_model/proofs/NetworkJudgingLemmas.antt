-- Judging the items of a list one after another.
use Rattle.std.proofs.Common.{◌≡◌, ℕ, ◌+◌, ◌<◌, ◌≤◌, Bool, true, List, [], length, get_or, take, drop, refl, sym, ap, ◌∙◌, arith}
use Rattle.std.proofs.Math.ListN.{drop_of_length-le}
use Rattle.std.proofs.lemmas.Bool.{and_parts, leb-true}
use Rattle.std.proofs.lemmas.List.{drop_more, take_more, length-take-le}
use Rattle.std.specs.Prelude.{Result, Ok, Err}
use Rattle.text_faults.specs.declared.text_place.TableKind.{TableKind}
use Rattle.text_faults.specs.declared.text_place.FaultPlace.{FaultPlace}
use Rattle.text_faults.specs.declared.fault.TextFault.{TextFault}
use Rattle.net_model.specs.NetworkJudging.{and_then, judged}
use Rattle.net_model.specs.NetworkJudgingTerms.{few}

-- a bounded list is short
pub few_bound : {X : Type 0} (most : ℕ) (test : X → Bool) (xs : List X) → few most test xs ≡ true → length xs ≤ most
few_bound most test xs h = leb-true _ _ (and_parts _ _ h).0

-- none of the first i items has a fault, and what is left gives the rest
pub record HasJudged {X : Type 0} (table : TableKind) (rules : List X → FaultPlace → X → Result (Unit {0}) TextFault) (xs : List X) (i : ℕ)
    : Type 0 where
  pub same : judged table rules (take i xs) (drop i xs) ≡ judged table rules [] xs

pub judges_start : {X : Type 0} (table : TableKind) (rules : List X → FaultPlace → X → Result (Unit {0}) TextFault) (xs : List X)
    → HasJudged table rules xs 0
judges_start table rules xs = record { same = refl }

-- what is left begins with the next item
turn : {X : Type 0} (table : TableKind) (rules : List X → FaultPlace → X → Result (Unit {0}) TextFault) (xs : List X) (i : ℕ) (x : X)
    → i < length xs → x ≡ get_or xs i x
    → judged table rules (take i xs) (drop i xs)
    ≡ and_then (rules (take i xs) (record { table = table; item = i + 1 }) x) (judged table rules (take (i + 1) xs) (drop (i + 1) xs))
turn table rules xs i x within is =
    rw (drop_more xs i x within, take_more xs i x within, ← is, length-take-le i xs (omega (arith, within))) refl

pub judges_more : {X : Type 0} (table : TableKind) (rules : List X → FaultPlace → X → Result (Unit {0}) TextFault) (xs : List X) (i : ℕ)
    (x : X) → HasJudged table rules xs i → i < length xs → x ≡ get_or xs i x
    → rules (take i xs) (record { table = table; item = i + 1 }) x ≡ Ok tt → HasJudged table rules xs (i + 1)
judges_more table rules xs i x so_far within is gives = record {
  same =
      let now = turn table rules xs i x within is in
      let next = judged table rules (take (i + 1) xs) (drop (i + 1) xs) in
      sym (now ∙ ap (λ r. and_then r next) gives) ∙ so_far.same;
}

pub judges_stop : {X : Type 0} (table : TableKind) (rules : List X → FaultPlace → X → Result (Unit {0}) TextFault) (xs : List X) (i : ℕ)
    (x : X) (fault : TextFault) → HasJudged table rules xs i → i < length xs → x ≡ get_or xs i x
    → rules (take i xs) (record { table = table; item = i + 1 }) x ≡ Err fault → judged table rules [] xs ≡ Err fault
judges_stop table rules xs i x fault so_far within is refused =
    let now = turn table rules xs i x within is in
    let next = judged table rules (take (i + 1) xs) (drop (i + 1) xs) in
    sym so_far.same ∙ (now ∙ ap (λ r. and_then r next) refused)

pub judges_end : {X : Type 0} (table : TableKind) (rules : List X → FaultPlace → X → Result (Unit {0}) TextFault) (xs : List X) (i : ℕ)
    → HasJudged table rules xs i → length xs ≤ i → judged table rules [] xs ≡ Ok tt
judges_end table rules xs i so_far past =
    sym so_far.same ∙ ap (judged table rules (take i xs)) (drop_of_length-le xs past)

pub ruleset judging_items = (judges_start, judges_more, judges_stop, judges_end)
