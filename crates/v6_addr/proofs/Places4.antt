-- the walk over the text of an IPv4 address reaches what some address begins with
use Rattle.std.proofs.Common.{◌≡◌, ℕ, zero, suc, ◌+◌, ◌-◌, ◌*◌, ◌/◌, ◌%◌, ◌^◌, ◌<◌, ◌≤◌, Bool, true, false, eqb, leb, ltb, cond, List, [], ◌∷◌, ◌++◌, Option, Some, None, sym, ◌∙◌, ap, subst, refl, arith, append_assoc, lit<}
use Rattle.std.specs.Prelude.{option_map, option_and_then, IfSome}
use Rattle.std.specs.Char.{digit_char}
use Rattle.std.proofs.lemmas.Bool.{lt-ltb, ltb-true, leb-true, le-leb, eqb-true, eq-eqb, ne_eqb, cond-true, cond-false}
use Rattle.std.proofs.lemmas.Grind.{pow_more}
use Rattle.std.proofs.lemmas.List.{append-nil}
use Rattle.std.proofs.lemmas.Option.{same_Some, none-some}
use Rattle.std.proofs.Math.Nat.{mul-le-mul_right, pow-le-pow_right}
use Rattle.v6_addr.specs.declared.scan4.Place4.{Place4}
use Rattle.v6_addr.specs.AddressFaults.{Begins}
use Rattle.v6_addr.specs.Lengths.{with_digit, next_number}
use Rattle.v6_addr.specs.Scan.{walked}
use Rattle.v6_addr.specs.Scan4.{start4, up_to_255, number_behind, behind_dot, behind4, address_at}
use Rattle.v6_addr.specs.Scan4Terms.{IsPlace4}
use Rattle.v6_addr.specs.Text.{length_text}
use Rattle.v6_addr.specs.Text4.{dotted_text}
use Rattle.v6_addr.specs.Text4Terms.{IsAddress4Text}
use Rattle.v6_addr.proofs.GrammarLaws.{some_cond, some_then}
use Rattle.v6_addr.proofs.AddressNumbers.{number_text, next_spells, KeepsNumbers, number_walked}
use Rattle.v6_addr.proofs.AddressWalks.{Reaches, walked_append, walked_one, walked_spelled}

-- one more number below the dots
pub value_more : (value done n : ℕ) → value < 256 ^ done → n ≤ 255 → value * 256 + n < 256 ^ (done + 1)
value_more value done n fits small =
    rw (pow_more 256 done) (let more = mul-le-mul_right 256 fits in omega (arith, more))

pub value_fits : (value done n : ℕ) → value < 256 ^ done → n ≤ 255 → done < 3 → value * 256 + n < 2 ^ 32
value_fits value done n fits small few =
    let room : done + 1 ≤ 3 = omega arith in
    omega (arith, value_more value done n fits small, pow-le-pow_right {n = 256} (lit< tt) room)

-- ---- what a place spells

abbrev place4 : ℕ → ℕ → Option ℕ → Place4
place4 done value number = record { done = done; value = value; number = number }

abbrev dotted : ℕ → ℕ → List ℕ
dotted zero value = []
dotted (suc k) value = dotted k (value / 256) ++ (length_text (value % 256) ++ (46 ∷ []))

abbrev spelled4 : Place4 → List ℕ
spelled4 place = dotted place.done place.value ++ number_text place.number

dot_spells : (place q : Place4) (number : Option ℕ) → IsPlace4 place → number ≡ place.number → behind_dot place number ≡ Some q
    → IsPlace4 q × (spelled4 q ≡ spelled4 place ++ (46 ∷ []))
unfolding behind_dot
dot_spells place q None valid is e = absurd (none-some q e)
dot_spells place q (Some n) valid is e =
    let parts = some_cond (ltb place.done 3) (Some (place4 (place.done + 1) (place.value * 256 + n) None)) q e in
    let few = ltb-true place.done 3 parts.0 in
    let small = subst (λ o. IfSome o (λ m. m ≤ 255)) (sym is) valid.small in
    let P : Place4 → Type 0 = λ r. IsPlace4 r × (spelled4 r ≡ spelled4 place ++ (46 ∷ [])) in
    let next : place.done + 1 ≡ suc place.done = omega arith in
    let above : (place.value * 256 + n) / 256 ≡ place.value = omega (arith, small) in
    let below : (place.value * 256 + n) % 256 ≡ n = omega (arith, small) in
    subst P (same_Some _ q parts.1) (
      record { few = omega arith; fits = value_more place.value place.done n valid.fits small; small = tt },
      append-nil (dotted (place.done + 1) (place.value * 256 + n))
          ∙ ap (λ k. dotted k (place.value * 256 + n)) next
          ∙ ap (λ v. dotted place.done v ++ (length_text ((place.value * 256 + n) % 256) ++ (46 ∷ []))) above
          ∙ ap (λ v. dotted place.done place.value ++ (length_text v ++ (46 ∷ []))) below
          ∙ sym (append_assoc (dotted place.done place.value) (length_text n) (46 ∷ []))
          ∙ ap (λ o. (dotted place.done place.value ++ number_text o) ++ (46 ∷ [])) is,
    )

number_spells : (place q : Place4) (c : ℕ) → IsPlace4 place
    → option_map (λ n. place4 place.done place.value (Some n)) (number_behind place.number c) ≡ Some q
    → IsPlace4 q × (spelled4 q ≡ spelled4 place ++ (c ∷ []))
unfolding number_behind up_to_255
number_spells place q c valid e = by_next (next_number place.number c) refl e
  where
    by_next : (o : Option ℕ) → next_number place.number c ≡ o
        → option_map (λ n. place4 place.done place.value (Some n)) (option_and_then (λ n. cond (leb n 255) (Some n) None) o) ≡ Some q
        → IsPlace4 q × (spelled4 q ≡ spelled4 place ++ (c ∷ []))
    by_next None is e = absurd (none-some q e)
    by_next (Some n) is e = by_test (leb n 255) refl e
      where
        by_test : (b : Bool) → leb n 255 ≡ b
            → option_map (λ n. place4 place.done place.value (Some n)) (cond b (Some n) None) ≡ Some q
            → IsPlace4 q × (spelled4 q ≡ spelled4 place ++ (c ∷ []))
        by_test false test e = absurd (none-some q e)
        by_test true test e =
            let small = leb-true n 255 test in
            let P : Place4 → Type 0 = λ r. IsPlace4 r × (spelled4 r ≡ spelled4 place ++ (c ∷ [])) in
            subst P (same_Some _ q e) (
              record { few = valid.few; fits = valid.fits; small = small },
              ap (λ t. dotted place.done place.value ++ t) (next_spells place.number c n is (omega arith))
                  ∙ sym (append_assoc (dotted place.done place.value) (number_text place.number) (c ∷ [])),
            )

pub one_more4 : (place q : Place4) (c : ℕ) → IsPlace4 place → behind4 place c ≡ Some q
    → IsPlace4 q × (spelled4 q ≡ spelled4 place ++ (c ∷ []))
unfolding behind4
one_more4 place q c valid e = by_test (eqb c 46) refl e
  where
    by_test : (b : Bool) → eqb c 46 ≡ b
        → cond b (behind_dot place place.number) (option_map (λ n. place4 place.done place.value (Some n)) (number_behind place.number c))
        ≡ Some q
        → IsPlace4 q × (spelled4 q ≡ spelled4 place ++ (c ∷ []))
    by_test true test e =
        let P : ℕ → Type 0 = λ n. IsPlace4 q × (spelled4 q ≡ spelled4 place ++ (n ∷ [])) in
        subst P (sym (eqb-true c 46 test)) (dot_spells place q place.number valid refl e)
    by_test false test e = number_spells place q c valid e

pub start_valid : IsPlace4 start4
start_valid = record { few = omega arith; fits = lit< tt; small = tt }

-- ---- each address is reached

number_passes : (n : ℕ) → n ≤ 255 → up_to_255 n ≡ Some n
unfolding up_to_255
number_passes n small = cond-true _ _ _ (le-leb n 255 small)

digit_no_dot : (d : ℕ) → d < 10 → eqb (digit_char d) 46 ≡ false
digit_no_dot d below =
    let char : digit_char d ≡ 48 + d = cond-true _ _ _ (lt-ltb d 10 below) in
    ne_eqb (digit_char d) 46 (λ e. absurd (no_dot (sym char ∙ e)))
  where
    no_dot : 48 + d ≡ 46 → ⊥
    no_dot e = omega arith

keeps4 : (done value : ℕ) → KeepsNumbers behind4 (place4 done value) up_to_255
unfolding behind4 number_behind
keeps4 done value = record {
  steps = λ number d below. cond-false (eqb (digit_char d) 46) (behind_dot (place4 done value number) number) _ (digit_no_dot d below);
}

number_reach : (done value n : ℕ) → n ≤ 255 → walked behind4 (place4 done value None) (length_text n) ≡ Some (place4 done value (Some n))
number_reach done value n small =
    number_walked behind4 (place4 done value) up_to_255 n (keeps4 done value) (omega arith) (number_passes n small)
    (λ long. number_passes (n / 10) (omega arith)) (λ long. number_passes (n / 100) (omega arith))

dot_reach : (done value n : ℕ) → done < 3 → behind4 (place4 done value (Some n)) 46 ≡ Some (place4 (done + 1) (value * 256 + n) None)
unfolding behind4 behind_dot
dot_reach done value n few = cond-true _ _ _ (lt-ltb done 3 few)

dotted_reach : (done value : ℕ) → done ≤ 3 → value < 256 ^ done → walked behind4 start4 (dotted done value) ≡ Some (place4 done value None)
unfolding walked
dotted_reach zero value few fits =
    let none : 0 ≡ value = omega arith in ap (λ v. Some (place4 0 v None)) none
dotted_reach (suc k) value few fits =
    let n = value % 256 in
    let before = value / 256 in
    let next : k + 1 ≡ suc k = omega arith in
    let sum : before * 256 + n ≡ value = omega arith in
    let P : ℕ → Type 0 = λ j. value < 256 ^ j in
    let bound : value < 256 ^ k * 256 = omega (arith, subst P (sym next) fits, pow_more 256 k) in
    let here = dotted_reach k before (omega arith) (omega (arith, bound)) in
    walked_append behind4 start4 (dotted k before) (length_text n ++ (46 ∷ []))
    ∙ ap (option_and_then (λ q. walked behind4 q (length_text n ++ (46 ∷ [])))) here
    ∙ walked_append behind4 (place4 k before None) (length_text n) (46 ∷ [])
    ∙ ap (option_and_then (λ q. walked behind4 q (46 ∷ []))) (number_reach k before n (omega arith))
    ∙ walked_one behind4 (place4 k before (Some n)) 46 ∙ dot_reach k before n (omega arith)
    ∙ ap (λ j. Some (place4 j (before * 256 + n) None)) next ∙ ap (λ v. Some (place4 (suc k) v None)) sum

spelled_reach : (value n : ℕ) → value < 256 ^ 3 → n ≤ 255
    → walked behind4 start4 (dotted 3 value ++ length_text n) ≡ Some (place4 3 value (Some n))
spelled_reach value n fits small =
    walked_append behind4 start4 (dotted 3 value) (length_text n)
    ∙ ap (option_and_then (λ q. walked behind4 q (length_text n))) (dotted_reach 3 value (omega arith) fits)
    ∙ number_reach 3 value n small

-- four texts with dots, in two orders of joining
abbrev four : List ℕ → List ℕ → List ℕ → List ℕ → List ℕ
four a b c d = ((([] ++ (a ++ (46 ∷ []))) ++ (b ++ (46 ∷ []))) ++ (c ++ (46 ∷ []))) ++ d

four_joined : (a b c d : List ℕ) → four a b c d ≡ a ++ (46 ∷ (b ++ (46 ∷ (c ++ (46 ∷ d)))))
four_joined a b c d = simp append_assoc refl

dotted_is : (a b c d : ℕ) → a ≤ 255 → b ≤ 255 → c ≤ 255
    → dotted 3 ((a * 256 + b) * 256 + c) ++ length_text d ≡ dotted_text a b c d
unfolding dotted_text
dotted_is a b c d small_a small_b small_c =
    let v = (a * 256 + b) * 256 + c in
    let third : v % 256 ≡ c = omega arith in
    let second : v / 256 % 256 ≡ b = omega arith in
    let first : v / 256 / 256 % 256 ≡ a = omega arith in
    ap (λ n. four (length_text n) (length_text (v / 256 % 256)) (length_text (v % 256)) (length_text d)) first
    ∙ ap (λ n. four (length_text a) (length_text n) (length_text (v % 256)) (length_text d)) second
    ∙ ap (λ n. four (length_text a) (length_text b) (length_text n) (length_text d)) third
    ∙ four_joined (length_text a) (length_text b) (length_text c) (length_text d)

-- the text of an address leads to where it ends
pub address4_reached : (text : List ℕ) (a : ℕ) → IsAddress4Text text a
    → (place : Place4) × (walked behind4 start4 text ≡ Some place) × (address_at place place.number ≡ Some a)
unfolding address_at
address4_reached text a h =
    let v = (h.first * 256 + h.second) * 256 + h.third in (
      place4 3 v (Some h.fourth),
      ap (walked behind4 start4) (h.written ∙ sym (dotted_is h.first h.second h.third h.fourth h.small.0 h.small.1 h.small.2))
          ∙ spelled_reach v h.fourth (omega (arith, h.small)) h.small.3,
      ap Some (sym h.value),
    )

-- ---- what is reached is what an address begins with

pub ended4 : (text : List ℕ) (place : Place4) (number : Option ℕ) (a : ℕ) → number ≡ place.number
    → walked behind4 start4 text ≡ Some place → address_at place number ≡ Some a → IsAddress4Text text a
unfolding address_at
ended4 text place None a is here e = absurd (none-some a e)
ended4 text place (Some n) a is here e =
    let parts = some_cond (eqb place.done 3) (Some ((place.value * 256 + n) * 2 ^ 96)) a e in
    let done = eqb-true place.done 3 parts.0 in
    let went = walked_spelled behind4 IsPlace4 spelled4 one_more4 start4 place text start_valid here in
    let small = subst (λ o. IfSome o (λ m. m ≤ 255)) (sym is) went.0.small in
    let P : ℕ → Type 0 = λ k. place.value < 256 ^ k in
    let fits = subst P done went.0.fits in
    let v = place.value in
    let a_part = v / 65536 in
    let b_part = v / 256 % 256 in
    let c_part = v % 256 in
    let sum : (a_part * 256 + b_part) * 256 + c_part ≡ v = omega arith in
    let small_a : a_part ≤ 255 = omega (arith, fits) in
    let Q : ℕ → Type 0 = λ k. dotted 3 k ++ length_text n ≡ dotted_text a_part b_part c_part n in
    let R : ℕ → Type 0 = λ k. a ≡ (k * 256 + n) * 2 ^ 96 in
    record {
      first = a_part;
      second = b_part;
      third = c_part;
      fourth = n;
      small = (small_a, omega arith, omega arith, small);
      written = sym went.1 ∙ ap (λ o. dotted place.done v ++ number_text o) (sym is) ∙ ap (λ k. dotted k v ++ length_text n) done
          ∙ subst Q sum (dotted_is a_part b_part c_part n small_a (omega arith) (omega arith));
      value = subst R (sym sum) (sym (same_Some _ a parts.1));
    }

-- a place where an address may end
record Finish (place : Place4) : Type 0 where
  rest : List ℕ
  end : Place4
  walk : walked behind4 place rest ≡ Some end
  address : ℕ
  ends : address_at end end.number ≡ Some address

zero_reach : (done value : ℕ) → behind4 (place4 done value None) 48 ≡ Some (place4 done value (Some 0))
unfolding behind4 number_behind next_number with_digit up_to_255
zero_reach done value = refl

finish_number : (r done value n : ℕ) → done + r ≡ 3 → Finish (place4 done value (Some n))
unfolding walked address_at
finish_number zero done value n sum = record {
  rest = [];
  end = place4 done value (Some n);
  walk = refl;
  address = (value * 256 + n) * 2 ^ 96;
  ends = cond-true _ _ _ (eq-eqb done 3 (omega arith));
}
finish_number (suc r) done value n sum =
    let more = finish_number r (done + 1) (value * 256 + n) 0 (omega arith) in
    record {
      rest = 46 ∷ 48 ∷ more.rest;
      end = more.end;
      walk = ap (option_and_then (λ q. walked behind4 q (48 ∷ more.rest))) (dot_reach done value n (omega arith))
          ∙ ap (option_and_then (λ q. walked behind4 q more.rest)) (zero_reach (done + 1) (value * 256 + n)) ∙ more.walk;
      address = more.address;
      ends = more.ends;
    }

finish : (done value : ℕ) (number : Option ℕ) → done ≤ 3 → Finish (place4 done value number)
unfolding walked
finish done value (Some n) few = finish_number (3 - done) done value n (omega arith)
finish done value None few =
    let more = finish_number (3 - done) done value 0 (omega arith) in
    record {
      rest = 48 ∷ more.rest;
      end = more.end;
      walk = ap (option_and_then (λ q. walked behind4 q more.rest)) (zero_reach done value) ∙ more.walk;
      address = more.address;
      ends = more.ends;
    }

begun_reached4 : (text : List ℕ) → Begins IsAddress4Text text → (place : Place4) × (walked behind4 start4 text ≡ Some place)
begun_reached4 text b =
    let whole = address4_reached (text ++ b.rest) b.value b.accepted in
    let parts = some_then (λ q. walked behind4 q b.rest) (walked behind4 start4 text) whole.0
    (sym (walked_append behind4 start4 text b.rest) ∙ whole.1) in
    (parts.0, parts.1)

reached_begins4 : (text : List ℕ) (place : Place4) → walked behind4 start4 text ≡ Some place → Begins IsAddress4Text text
reached_begins4 text place here =
    let went = walked_spelled behind4 IsPlace4 spelled4 one_more4 start4 place text start_valid here in
    let f = finish place.done place.value place.number went.0.few in
    record {
      rest = f.rest;
      value = f.address;
      accepted = ended4 (text ++ f.rest) f.end f.end.number f.address refl
          (walked_append behind4 start4 text f.rest ∙ ap (option_and_then (λ q. walked behind4 q f.rest)) here ∙ f.walk) f.ends;
    }

pub addresses4_reach : Reaches (Begins IsAddress4Text) behind4 start4
addresses4_reach = record { reached = begun_reached4; begins = reached_begins4 }

-- ---- what a reader of a whole text finds

-- a text has one address at most
pub one_address4 : (text : List ℕ) (a b : ℕ) → IsAddress4Text text a → IsAddress4Text text b → a ≡ b
one_address4 text a b first second =
    let p = address4_reached text a first in
    let q = address4_reached text b second in
    let same = same_Some p.0 q.0 (sym p.1 ∙ q.1) in
    same_Some a b (sym p.2 ∙ ap (λ (r : Place4). address_at r r.number) same ∙ q.2)

-- no address stands where the walk can't end
pub no_address4 : (text : List ℕ) (place : Place4) (a : ℕ) → walked behind4 start4 text ≡ Some place
    → None ≡ address_at place place.number → IsAddress4Text text a → ⊥
no_address4 text place a here none accepted =
    let p = address4_reached text a accepted in
    let same = same_Some place p.0 (sym here ∙ p.1) in
    none-some a (none ∙ ap (λ (r : Place4). address_at r r.number) same ∙ p.2)
