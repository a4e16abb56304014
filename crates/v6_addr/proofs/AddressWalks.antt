-- walks over the bytes of a text: where one stops is the longest beginning of its kind
use Rattle.std.proofs.Common.{◌≡◌, ℕ, suc, ◌+◌, ◌-◌, ◌<◌, ◌≤◌, List, [], ◌∷◌, ◌++◌, length, take, drop, get_or, Option, Some, None, sym, ◌∙◌, ap, subst, refl, arith, drop-cons, append_assoc}
use Rattle.std.specs.Prelude.{option_and_then}
use Rattle.std.proofs.lemmas.List.{take-append-drop, take-take, drop-take, take_all, append-nil}
use Rattle.std.proofs.lemmas.Option.{none-some, same_Some}
use Rattle.v6_addr.proofs.GrammarLaws.{some_then}
use Rattle.v6_addr.specs.AddressFaults.{IsLongestBeginning}
use Rattle.v6_addr.specs.Scan.{walked}

pub walked_append : {A : Type 0} (step : A → ℕ → Option A) (place : A) (xs ys : List ℕ)
    → walked step place (xs ++ ys) ≡ option_and_then (λ q. walked step q ys) (walked step place xs)
unfolding walked
walked_append step place [] ys = refl
walked_append step place (c ∷ cs) ys = by_next step (step place c) cs ys (λ q. walked_append step q cs ys)
  where
    by_next : {A : Type 0} (step : A → ℕ → Option A) (o : Option A) (cs ys : List ℕ)
        → ((q : A) → walked step q (cs ++ ys) ≡ option_and_then (λ r. walked step r ys) (walked step q cs))
        → option_and_then (λ q. walked step q (cs ++ ys)) o
        ≡ option_and_then (λ q. walked step q ys) (option_and_then (λ q. walked step q cs) o)
    by_next step None cs ys more = refl
    by_next step (Some q) cs ys more = more q

pub walked_one : {A : Type 0} (step : A → ℕ → Option A) (place : A) (c : ℕ) → walked step place (c ∷ []) ≡ step place c
unfolding walked
walked_one step place c = one (step place c)
  where
    one : {A : Type 0} (o : Option A) → option_and_then (λ q. Some q) o ≡ o
    one None = refl
    one (Some q) = refl

-- a longer beginning is the shorter one and the next byte
pub take_past : (text : List ℕ) (i k : ℕ) → i < k → i < length text
    → take k text ≡ take i text ++ (get_or text i 0 ∷ take (k - i - 1) (drop (suc i) text))
take_past text i k above within =
    let m = suc (k - i - 1) in
    let sum : i + m ≡ k = omega arith in
    let P : ℕ → Type 0 = λ n. drop i (take n text) ≡ take m (drop i text) in
    sym (take-append-drop i (take k text))
    ∙ ap (λ t. t ++ drop i (take k text)) (take-take i k text (omega arith))
    ∙ ap (λ t. take i text ++ t) (subst P sum (drop-take i m text) ∙ ap (take m) (drop-cons text i 0 within))

-- one more byte
pub walked_more : {A : Type 0} (step : A → ℕ → Option A) (start place next : A) (text : List ℕ) (i : ℕ) → i < length text
    → walked step start (take i text) ≡ Some place → step place (get_or text i 0) ≡ Some next
    → walked step start (take (i + 1) text) ≡ Some next
walked_more step start place next text i within here is_next =
    let none : i + 1 - i - 1 ≡ 0 = omega arith in
    ap (walked step start) (take_past text i (i + 1) (omega arith) within
    ∙ ap (λ n. take i text ++ (get_or text i 0 ∷ take n (drop (suc i) text))) none)
    ∙ walked_append step start (take i text) (get_or text i 0 ∷ [])
    ∙ ap (option_and_then (λ q. walked step q (get_or text i 0 ∷ []))) here
    ∙ walked_one step place (get_or text i 0) ∙ is_next

-- the byte after the walk has no place
pub walked_no_more : {A : Type 0} (step : A → ℕ → Option A) (start place : A) (text : List ℕ) (i k : ℕ) → i < length text → i < k
    → walked step start (take i text) ≡ Some place → step place (get_or text i 0) ≡ None
    → walked step start (take k text) ≡ None
unfolding walked
walked_no_more step start place text i k within above here none =
    let rest = take (k - i - 1) (drop (suc i) text) in
    ap (walked step start) (take_past text i k above within)
    ∙ walked_append step start (take i text) (get_or text i 0 ∷ rest)
    ∙ ap (option_and_then (λ q. walked step q (get_or text i 0 ∷ rest))) here
    ∙ ap (option_and_then (λ q. walked step q rest)) none

-- what is reached is what some accepted text begins with
pub record Reaches {A : Type 0} (Begins : List ℕ → Type 0) (step : A → ℕ → Option A) (start : A) : Type 0 where
  pub reached : (text : List ℕ) → Begins text → (place : A) × (walked step start text ≡ Some place)
  pub begins : (text : List ℕ) (place : A) → walked step start text ≡ Some place → Begins text

pub stopped_at : {A : Type 0} (Begins : List ℕ → Type 0) (step : A → ℕ → Option A) (start place : A) (text : List ℕ) (i : ℕ)
    → Reaches Begins step start → i < length text → walked step start (take i text) ≡ Some place
    → step place (get_or text i 0) ≡ None → IsLongestBeginning Begins text i
stopped_at Begins step start place text i reaches within here none = record {
  within = omega arith;
  begins = reaches.begins (take i text) place here;
  longest = λ k above fits longer.
      let other = reaches.reached (take k text) longer in
      none-some other.0 (sym (walked_no_more step start place text i k within above here none) ∙ other.1);
}

pub walked_all : {A : Type 0} (Begins : List ℕ → Type 0) (step : A → ℕ → Option A) (start place : A) (text : List ℕ) (i : ℕ)
    → Reaches Begins step start → length text ≤ i → walked step start (take i text) ≡ Some place
    → IsLongestBeginning Begins text (length text)
walked_all Begins step start place text i reaches end here =
    let whole : take (length text) text ≡ take i text = take_all (length text) text (omega arith) ∙ sym (take_all i text end) in
    record {
      within = omega arith;
      begins = reaches.begins (take (length text) text) place (ap (walked step start) whole ∙ here);
      longest = λ k above fits longer. absurd (omega arith);
    }

-- what a walk has read is what its place spells, where that is so of each step
pub walked_spelled : {A : Type 0} (step : A → ℕ → Option A) (Valid : A → Type 0) (spelled : A → List ℕ)
    → ((p q : A) (c : ℕ) → Valid p → step p c ≡ Some q → Valid q × (spelled q ≡ spelled p ++ (c ∷ [])))
    → (p q : A) (text : List ℕ) → Valid p → walked step p text ≡ Some q → Valid q × (spelled q ≡ spelled p ++ text)
unfolding walked
walked_spelled {A} step Valid spelled one p q [] valid e =
    let same = same_Some p q e in
    let P : A → Type 0 = λ r. Valid r × (spelled r ≡ spelled p ++ []) in
    subst P same (valid, sym (append-nil (spelled p)))
walked_spelled {A} step Valid spelled one p q (c ∷ cs) valid e =
    let next = some_then (λ r. walked step r cs) (step p c) q e in
    let here = one p next.0 c valid next.1 in
    let more = walked_spelled step Valid spelled one next.0 q cs here.0 next.2 in
    (more.0, more.1 ∙ ap (λ t. t ++ cs) here.1 ∙ append_assoc (spelled p) (c ∷ []) cs)
