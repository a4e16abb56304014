-- the walk over a prefix's length reaches what some length that fits the address begins with
use Rattle.std.proofs.Common.{◌≡◌, ℕ, ◌-◌, ◌/◌, ◌%◌, ◌^◌, ◌≤◌, ◌⊎◌, inl, inr, Bool, true, ltb, leb, ◌&&◌, List, [], ◌∷◌, ◌++◌, length, take, drop, Option, Some, None, sym, ◌∙◌, ap, subst, refl, arith}
use Rattle.std.specs.Prelude.{◌||◌, option_map, bytes_eq}
use Rattle.std.proofs.lemmas.Bool.{and_parts, and_from, or_cases, ltb-true, leb-true, le-leb, eqb-true, eq-eqb, cond-true, agree_below_at}
use Rattle.std.proofs.lemmas.List.{take-append-drop}
use Rattle.std.proofs.lemmas.Slice.Eq.{bytes_eq-Decides}
use Rattle.std.proofs.lemmas.Option.{same_Some, none-some}
use Rattle.std.proofs.Math.Nat.{zero-mod}
use Rattle.v6_addr.specs.Text.{length_text}
use Rattle.v6_addr.specs.AddressFaults.{Begins}
use Rattle.v6_addr.specs.Lengths.{next_number}
use Rattle.v6_addr.specs.LengthsTerms.{furthest, length_goes_on, length_behind, length_step, IsLengthOf}
use Rattle.v6_addr.specs.Scan.{walked}
use Rattle.v6_addr.proofs.Fields.{same_below}
use Rattle.v6_addr.proofs.GrammarLaws.{some_cond, some_then}
use Rattle.v6_addr.proofs.AddressNumbers.{number_text, next_spells, KeepsNumbers, number_walked}
use Rattle.v6_addr.proofs.AddressWalks.{Reaches, walked_append, walked_spelled}

-- ---- the furthest length

abbrev tens_within : ℕ → ℕ → Bool
tens_within limit n = ltb n 10 || leb n (furthest limit (n / 10))

abbrev hundreds_within : ℕ → ℕ → Bool
hundreds_within limit n = ltb n 100 || leb n (furthest limit (n / 100))

abbrev within_furthest : ℕ → ℕ → Bool
within_furthest limit n = leb (furthest limit n) limit && leb n (furthest limit n)

abbrev begins_furthest : ℕ → ℕ → Bool
begins_furthest limit n = bytes_eq (length_text n) (take (length (length_text n)) (length_text (furthest limit n)))

-- what is known of the furthest length
record FurthestAt (limit n : ℕ) : Type 0 where
  below : furthest limit n ≤ limit
  own : n ≤ furthest limit n
  tens : 10 ≤ n → n ≤ furthest limit (n / 10)
  hundreds : 100 ≤ n → n ≤ furthest limit (n / 100)
  begun : length_text n ≡ take (length (length_text n)) (length_text (furthest limit n))

from_tests : (limit n : ℕ) → within_furthest limit n ≡ true → tens_within limit n ≡ true → hundreds_within limit n ≡ true
    → begins_furthest limit n ≡ true → FurthestAt limit n
from_tests limit n within tens hundreds begins =
    let sides = and_parts (leb (furthest limit n) limit) (leb n (furthest limit n)) within in
    record {
      below = leb-true _ _ sides.0;
      own = leb-true _ _ sides.1;
      tens = λ long. elim (or_cases (ltb n 10) (leb n (furthest limit (n / 10))) tens) [
        | inl short ↦ absurd (omega (arith, ltb-true n 10 short))
        | inr h ↦ leb-true _ _ h
      ];
      hundreds = λ long. elim (or_cases (ltb n 100) (leb n (furthest limit (n / 100))) hundreds) [
        | inl short ↦ absurd (omega (arith, ltb-true n 100 short))
        | inr h ↦ leb-true _ _ h
      ];
      begun = (bytes_eq-Decides (length_text n) (take (length (length_text n)) (length_text (furthest limit n)))).0 begins;
    }

furthest_128 : (n : ℕ) → n ≤ 128 → FurthestAt 128 n
unfolding furthest length_text
furthest_128 n short =
    from_tests 128 n (agree_below_at (within_furthest 128) (λ m. true) 129 n refl (omega arith))
    (agree_below_at (tens_within 128) (λ m. true) 129 n refl (omega arith))
    (agree_below_at (hundreds_within 128) (λ m. true) 129 n refl (omega arith))
    (agree_below_at (begins_furthest 128) (λ m. true) 129 n refl (omega arith))

furthest_32 : (n : ℕ) → n ≤ 32 → FurthestAt 32 n
unfolding furthest length_text
furthest_32 n short =
    from_tests 32 n (agree_below_at (within_furthest 32) (λ m. true) 33 n refl (omega arith))
    (agree_below_at (tens_within 32) (λ m. true) 33 n refl (omega arith))
    (agree_below_at (hundreds_within 32) (λ m. true) 33 n refl (omega arith))
    (agree_below_at (begins_furthest 32) (λ m. true) 33 n refl (omega arith))

furthest_at : (limit : ℕ) → (limit ≡ 32) ⊎ (limit ≡ 128) → (n : ℕ) → n ≤ limit → FurthestAt limit n
furthest_at limit (inl e) n short =
    let P : ℕ → Type 0 = λ l. FurthestAt l n in subst P (sym e) (furthest_32 n (omega arith))
furthest_at limit (inr e) n short =
    let P : ℕ → Type 0 = λ l. FurthestAt l n in subst P (sym e) (furthest_128 n (omega arith))

-- ---- what passes

-- no bit is set after a longer length either
clear_longer : (value len more : ℕ) → len ≤ more → value % 2 ^ (128 - len) ≡ 0 → value % 2 ^ (128 - more) ≡ 0
clear_longer value len more longer clear =
    same_below value 0 (128 - more) (128 - len) (omega arith) (clear ∙ sym (zero-mod (2 ^ (128 - len))))
    ∙ zero-mod (2 ^ (128 - more))

record Passes (limit value n : ℕ) : Type 0 where
  short : n ≤ limit
  clear : value % 2 ^ (128 - furthest limit n) ≡ 0

passes : (limit value n : ℕ) → Passes limit value n → length_goes_on limit value n ≡ Some n
unfolding length_goes_on
passes limit value n h = cond-true _ _ _ (and_from _ _ (le-leb n limit h.short) (eq-eqb _ _ h.clear))

passed : (limit value n m : ℕ) → length_goes_on limit value n ≡ Some m → Passes limit value m × (n ≡ m)
unfolding length_goes_on
passed limit value n m e =
    let parts = some_cond _ _ m e in
    let tests = and_parts _ _ parts.0 in
    let same = same_Some n m parts.1 in
    let P : ℕ → Type 0 = Passes limit value in
    (subst P same (record { short = leb-true _ _ tests.0; clear = eqb-true _ _ tests.1 }), same)

keeps : (limit value : ℕ) → KeepsNumbers (length_step limit value) (λ n. n) (length_goes_on limit value)
unfolding length_behind
keeps limit value = record { steps = λ number d below. refl }

-- the digits of a length that fits lead to it
length_walked : (limit value len : ℕ) → (limit ≡ 32) ⊎ (limit ≡ 128) → len ≤ limit → value % 2 ^ (128 - len) ≡ 0
    → walked (length_step limit value) None (length_text len) ≡ Some (Some len)
length_walked limit value len is_limit short clear =
    let far = furthest_at limit is_limit len short in
    let small : limit ≤ 128 = elim is_limit [ inl e ↦ omega arith | inr e ↦ omega arith ] in
    number_walked (length_step limit value) (λ n. n) (length_goes_on limit value) len (keeps limit value) (omega arith)
    (passes limit value len (record { short = short; clear = clear_longer value len (furthest limit len) far.own clear }))
    (λ long. passes limit value (len / 10)
    (record { short = omega arith; clear = clear_longer value len (furthest limit (len / 10)) (far.tens long) clear }))
    (λ long. passes limit value (len / 100)
    (record { short = omega arith; clear = clear_longer value len (furthest limit (len / 100)) (far.hundreds long) clear }))

-- ---- both ways

abbrev ValidLength : ℕ → ℕ → Option ℕ → Type 0
ValidLength limit value None = Unit {0}
ValidLength limit value (Some n) = Passes limit value n

one_more : (limit value : ℕ) → limit ≤ 128 → (p q : Option ℕ) (c : ℕ) → ValidLength limit value p → length_step limit value p c ≡ Some q
    → ValidLength limit value q × (number_text q ≡ number_text p ++ (c ∷ []))
unfolding length_behind
one_more limit value small p q c valid e =
    let made = some_map_of (length_behind limit value p c) q e in
    let next = some_then (length_goes_on limit value) (next_number p c) made.0 made.1 in
    let went = passed limit value next.0 made.0 next.2 in
    let P : Option ℕ → Type 0 = λ r. ValidLength limit value r × (number_text r ≡ number_text p ++ (c ∷ [])) in
    subst P made.2 (went.0, ap length_text (sym went.1) ∙ next_spells p c next.0 next.1 (omega (arith, went.0.short, went.1)))
  where
    some_map_of : (o : Option ℕ) (q : Option ℕ) → option_map Some o ≡ Some q → (n : ℕ) × (o ≡ Some n) × (Some n ≡ q)
    some_map_of None q e = absurd (none-some q e)
    some_map_of (Some n) q e = (n, refl, same_Some (Some n) q e)

begun_length : (limit value : ℕ) → (limit ≡ 32) ⊎ (limit ≡ 128) → (text : List ℕ) → Begins (IsLengthOf limit value) text
    → (n : Option ℕ) × (walked (length_step limit value) None text ≡ Some n)
begun_length limit value is_limit text b =
    let step = length_step limit value in
    let h = b.accepted in
    let whole = length_walked limit value b.value is_limit h.short h.clear in
    let parts = some_then (λ q. walked step q b.rest) (walked step None text) (Some b.value)
    (sym (walked_append step None text b.rest) ∙ ap (walked step None) h.digits ∙ whole) in
    (parts.0, parts.1)

length_begins : (limit value : ℕ) → (limit ≡ 32) ⊎ (limit ≡ 128) → value % 2 ^ (128 - limit) ≡ 0 → (text : List ℕ) (n : Option ℕ)
    → walked (length_step limit value) None text ≡ Some n → Begins (IsLengthOf limit value) text
length_begins limit value is_limit fits text n e =
    let small : limit ≤ 128 = elim is_limit [ inl e ↦ omega arith | inr e ↦ omega arith ] in
    let spelled = walked_spelled (length_step limit value) (ValidLength limit value) number_text (one_more limit value small) None n text
    tt e in
    completed n spelled.0 spelled.1
  where
    completed : (n : Option ℕ) → ValidLength limit value n → number_text n ≡ text → Begins (IsLengthOf limit value) text
    completed None valid is_text = record {
      rest = length_text limit;
      value = limit;
      accepted = record { digits = ap (λ t. t ++ length_text limit) (sym is_text); short = omega arith; clear = fits };
    }
    completed (Some n) valid is_text =
        let far = furthest_at limit is_limit n valid.short in
        let whole = length_text (furthest limit n) in
        let count = length (length_text n) in
        record {
          rest = drop count whole;
          value = furthest limit n;
          accepted = record {
            digits = ap (λ t. t ++ drop count whole) (sym is_text ∙ far.begun) ∙ take-append-drop count whole;
            short = far.below;
            clear = valid.clear;
          };
        }

pub lengths_reach : (limit value : ℕ) → (limit ≡ 32) ⊎ (limit ≡ 128) → value % 2 ^ (128 - limit) ≡ 0
    → Reaches (Begins (IsLengthOf limit value)) (length_step limit value) None
lengths_reach limit value is_limit fits =
    record { reached = begun_length limit value is_limit; begins = length_begins limit value is_limit fits }
