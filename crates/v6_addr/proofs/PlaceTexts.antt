-- the places in the text of an address: what leads from a place to an end of it
use Rattle.std.proofs.Common.{◌≡◌, ℕ, suc, ◌+◌, ◌-◌, ◌<◌, ◌≤◌, ◌⊎◌, inl, inr, Bool, true, false, eqb, ltb, cond, List, [], ◌∷◌, ◌++◌, length, replicate, Option, Some, None, sym, ◌∙◌, ap, subst, refl, arith, append_assoc}
use Rattle.std.specs.Prelude.{option_and_then}
use Rattle.std.specs.Char.{digit_value, is_digit}
use Rattle.std.specs.List.{AllZip}
use Rattle.std.specs.Str.Parse.{digits_value, AllDigits}
use Rattle.std.proofs.lemmas.List.{append-nil}
use Rattle.std.proofs.lemmas.Option.{same_Some, none-some}
use Rattle.std.proofs.lemmas.Bool.{ltb-true, eqb-true, false≢true}
use Rattle.v6_addr.specs.declared.scan.Scanned.{Scanned}
use Rattle.v6_addr.specs.declared.scan.Scanned.TheVariants.{Start, Colon, Group, Between, Gap}
use Rattle.v6_addr.specs.Text.{number_of_groups}
use Rattle.v6_addr.specs.AddressGrammar.{IsGroupText, IsGroupsText, IsAddressText}
use Rattle.v6_addr.specs.Scan.{walked}
use Rattle.v6_addr.specs.ScanTerms.{behind_digit, behind_colon, behind, reached, is_end}
use Rattle.v6_addr.proofs.GrammarLaws.{some_cond}
use Rattle.v6_addr.proofs.AddressPlaces.{more_texts, joined_more}

-- a place where an address may end
abbrev pub EndsAt : Option Scanned → Type 0
EndsAt None = ⊥
EndsAt (Some place) = is_end place ≡ true

-- the first step from a place to an end
record DigitStep (place : Scanned) (c : ℕ) (rest : List ℕ) : Type 0 where
  digit : digit_value c < 16
  next : Scanned
  is_next : behind_digit place ≡ Some next
  ends : EndsAt (reached next rest)

record ColonStep (place : Scanned) (c : ℕ) (rest : List ℕ) : Type 0 where
  colon : c ≡ 58
  next : Scanned
  is_next : behind_colon place ≡ Some next
  ends : EndsAt (reached next rest)

from_next : (o : Option Scanned) (rest : List ℕ) → EndsAt (option_and_then (λ q. reached q rest) o)
    → (q : Scanned) × (o ≡ Some q) × EndsAt (reached q rest)
from_next None rest ends = absurd ends
from_next (Some q) rest ends = (q, refl, ends)

first_step : (place : Scanned) (c : ℕ) (rest : List ℕ) → EndsAt (reached place (c ∷ rest)) → DigitStep place c rest ⊎ ColonStep place c rest
unfolding walked behind
first_step place c rest ends = by_test (is_digit c 16) (eqb c 58) refl refl (from_next (behind place c) rest ends)
  where
    by_test : (digit colon : Bool) → is_digit c 16 ≡ digit → eqb c 58 ≡ colon
        → (q : Scanned) × (cond digit (behind_digit place) (cond colon (behind_colon place) None) ≡ Some q) × EndsAt (reached q rest)
        → DigitStep place c rest ⊎ ColonStep place c rest
    by_test true colon digit other next =
        inl (record { digit = ltb-true _ _ digit; next = next.0; is_next = next.1; ends = next.2 })
    by_test false true other colon next =
        inr (record { colon = eqb-true _ _ colon; next = next.0; is_next = next.1; ends = next.2 })
    by_test false false other none next = absurd (none-some next.0 next.1)

-- ---- what stands after a place, up to an end

-- `::` and fewer groups than are left
record GapTail (k : ℕ) (end : List ℕ) : Type 0 where
  right_text : List ℕ
  right : List ℕ
  written : IsGroupsText right_text right
  few : length right < k
  parts : end ≡ 58 ∷ 58 ∷ right_text

-- after the groups: nothing, or `::` and groups where it wasn't read yet
abbrev Ended : Bool → ℕ → List ℕ → Type 0
Ended true k end = end ≡ []
Ended false k end = ((end ≡ []) × (k ≡ 0)) ⊎ GapTail k end

-- groups with a colon before each, and what ends the address
record More (rest : List ℕ) (left : ℕ) (short : Bool) : Type 0 where
  texts : List (List ℕ)
  groups : List ℕ
  k : ℕ
  end : List ℕ
  parts : rest ≡ more_texts texts ++ end
  each : AllZip IsGroupText texts groups
  sum : left ≡ length groups + k
  ended : Ended short k end

-- the rest of a group, and more
record Tail (rest : List ℕ) (left digits : ℕ) (short : Bool) : Type 0 where
  text : List ℕ
  after : List ℕ
  parts : rest ≡ text ++ after
  all : AllDigits 16 text
  few : digits + length text ≤ 4
  more : More after left short

-- groups after `::`
record Groups (text : List ℕ) (left : ℕ) : Type 0 where
  groups : List ℕ
  written : IsGroupsText text groups
  few : length groups ≤ left

-- a group that a digit begins
first_group : (c : ℕ) (cs : List ℕ) (left : ℕ) (short : Bool) → digit_value c < 16 → (t : Tail cs left 1 short)
    → IsGroupText (c ∷ t.text) (digits_value 16 (c ∷ t.text))
first_group c cs left short digit t = (omega arith, omega (arith, t.few), (digit, t.all), refl)

group_end : (left digits : ℕ) (short : Bool) → is_end (Group left digits short) ≡ true → More [] left short
group_end left digits true e =
    record { texts = []; groups = []; k = left; end = []; parts = refl; each = tt; sum = omega arith; ended = refl }
group_end left digits false e =
    record {
      texts = [];
      groups = [];
      k = left;
      end = [];
      parts = refl;
      each = tt;
      sum = omega arith;
      ended = inl (refl, eqb-true left 0 e);
    }

abbrev GapsFollow : Bool → Type 0
GapsFollow short = (left : ℕ) (rest : List ℕ) → short ≡ false → EndsAt (reached (Gap left) rest) → Groups rest left

group_digit : (c : ℕ) (cs : List ℕ) (left digits : ℕ) (short : Bool) → DigitStep (Group left digits short) c cs
    → (EndsAt (reached (Group left (digits + 1) short) cs) → Tail cs left (digits + 1) short)
    → Tail (c ∷ cs) left digits short
unfolding behind_digit
group_digit c cs left digits short h more =
    let next = some_cond (ltb digits 4) (Some (Group left (digits + 1) short)) h.next h.is_next in
    let P : Scanned → Type 0 = λ q. EndsAt (reached q cs) in
    let tail = more (subst P (sym (same_Some _ _ next.1)) h.ends) in
    record {
      text = c ∷ tail.text;
      after = tail.after;
      parts = ap (λ r. c ∷ r) tail.parts;
      all = (h.digit, tail.all);
      few = omega (arith, tail.few);
      more = tail.more;
    }

group_colon : (c : ℕ) (cs : List ℕ) (left digits : ℕ) (short : Bool) → digits ≤ 4 → ColonStep (Group left digits short) c cs
    → (EndsAt (reached (Between (left - 1) short) cs) → More (58 ∷ cs) (suc (left - 1)) short)
    → Tail (c ∷ cs) left digits short
unfolding behind_colon
group_colon c cs left digits short few h more =
    let next = some_cond (ltb 0 left) (Some (Between (left - 1) short)) h.next h.is_next in
    let P : Scanned → Type 0 = λ q. EndsAt (reached q cs) in
    let behind = more (subst P (sym (same_Some _ _ next.1)) h.ends) in
    let some = ltb-true 0 left next.0 in
    let same : suc (left - 1) ≡ left = omega (arith, some) in
    let Q : ℕ → Type 0 = λ n. More (58 ∷ cs) n short in
    record {
      text = [];
      after = 58 ∷ cs;
      parts = ap (λ n. n ∷ cs) h.colon;
      all = tt;
      few = omega arith;
      more = subst Q same behind;
    }

between_digit : (c : ℕ) (cs : List ℕ) (left : ℕ) (short : Bool) → DigitStep (Between left short) c cs
    → (EndsAt (reached (Group left 1 short) cs) → Tail cs left 1 short)
    → More (58 ∷ c ∷ cs) (suc left) short
unfolding behind_digit
between_digit c cs left short h more =
    let P : Scanned → Type 0 = λ q. EndsAt (reached q cs) in
    let tail = more (subst P (sym (same_Some _ _ h.is_next)) h.ends) in
    let m = tail.more in
    record {
      texts = (c ∷ tail.text) ∷ m.texts;
      groups = digits_value 16 (c ∷ tail.text) ∷ m.groups;
      k = m.k;
      end = m.end;
      parts = ap (λ r. 58 ∷ c ∷ r) (tail.parts ∙ ap (λ r. tail.text ++ r) m.parts
          ∙ sym (append_assoc tail.text (more_texts m.texts) m.end));
      each = (first_group c cs left short h.digit tail, m.each);
      sum = omega (arith, m.sum);
      ended = m.ended;
    }

between_colon : (c : ℕ) (cs : List ℕ) (left : ℕ) (short : Bool) → ColonStep (Between left short) c cs → GapsFollow short
    → More (58 ∷ c ∷ cs) (suc left) short
unfolding behind_colon
between_colon c cs left true h gaps = absurd (none-some h.next h.is_next)
between_colon c cs left false h gaps =
    let P : Scanned → Type 0 = λ q. EndsAt (reached q cs) in
    let right = gaps left cs refl (subst P (sym (same_Some _ _ h.is_next)) h.ends) in
    record {
      texts = [];
      groups = [];
      k = suc left;
      end = 58 ∷ c ∷ cs;
      parts = refl;
      each = tt;
      sum = omega arith;
      ended = inr (record {
        right_text = cs;
        right = right.groups;
        written = right.written;
        few = omega (arith, right.few);
        parts = ap (λ n. 58 ∷ n ∷ cs) h.colon;
      });
    }

-- what leads from a group, and from a colon after a group, to an end
record Both (rest : List ℕ) (short : Bool) : Type 0 where
  group : (left digits : ℕ) → digits ≤ 4 → EndsAt (reached (Group left digits short) rest) → Tail rest left digits short
  between : (left : ℕ) → EndsAt (reached (Between left short) rest) → More (58 ∷ rest) (suc left) short

few_more : (c : ℕ) (cs : List ℕ) (left digits : ℕ) (short : Bool) → DigitStep (Group left digits short) c cs → digits + 1 ≤ 4
unfolding behind_digit
few_more c cs left digits short h =
    let below = ltb-true digits 4 (some_cond (ltb digits 4) (Some (Group left (digits + 1) short)) h.next h.is_next).0 in
    omega (arith, below)

tails : (short : Bool) → GapsFollow short → (rest : List ℕ) → Both rest short
unfolding walked
tails short gaps [] = record {
  group = λ left digits few ends. record {
    text = [];
    after = [];
    parts = refl;
    all = tt;
    few = omega arith;
    more = group_end left digits short ends;
  };
  between = λ left ends. absurd (false≢true ends);
}
tails short gaps (c ∷ cs) =
    let more = tails short gaps cs in
    record {
      group = λ left digits few ends. elim (first_step (Group left digits short) c cs ends) [
        | inl h ↦ group_digit c cs left digits short h (more.group left (digits + 1) (few_more c cs left digits short h))
        | inr h ↦ group_colon c cs left digits short few h (more.between (left - 1))
      ];
      between = λ left ends. elim (first_step (Between left short) c cs ends) [
        | inl h ↦ between_digit c cs left short h (more.group left 1 (omega arith))
        | inr h ↦ between_colon c cs left short h gaps
      ];
    }

-- ---- groups after `::`

no_gaps : GapsFollow true
no_gaps left rest e ends = absurd (false≢true (sym e))

-- groups that a digit begins, where no `::` may follow
joined_tail : (c : ℕ) (cs : List ℕ) (left : ℕ) → digit_value c < 16 → Tail cs left 1 true → Groups (c ∷ cs) (suc left)
joined_tail c cs left digit t =
    let m = t.more in
    record {
      groups = digits_value 16 (c ∷ t.text) ∷ m.groups;
      written = record {
        texts = (c ∷ t.text) ∷ m.texts;
        joined = ap (λ r. c ∷ r) (t.parts ∙ ap (λ r. t.text ++ r) (m.parts ∙ ap (λ r. more_texts m.texts ++ r) m.ended
            ∙ append-nil (more_texts m.texts)))
            ∙ sym (joined_more (c ∷ t.text) m.texts);
        each = (first_group c cs left true digit t, m.each);
      };
      few = omega (arith, m.sum);
    }

gap_groups : (left : ℕ) (rest : List ℕ) → EndsAt (reached (Gap left) rest) → Groups rest left
unfolding behind_digit behind_colon
gap_groups left [] ends =
    record { groups = []; written = record { texts = []; joined = refl; each = tt }; few = omega arith }
gap_groups left (c ∷ cs) ends =
    elim (first_step (Gap left) c cs ends) [
      | inl h ↦ begun h (some_cond (ltb 0 left) (Some (Group (left - 1) 1 true)) h.next h.is_next)
      | inr h ↦ absurd (none-some h.next h.is_next)
    ]
  where
    begun : (h : DigitStep (Gap left) c cs) → (ltb 0 left ≡ true) × (Some (Group (left - 1) 1 true) ≡ Some h.next) → Groups (c ∷ cs) left
    begun h next =
        let P : Scanned → Type 0 = λ q. EndsAt (reached q cs) in
        let tail = (tails true no_gaps cs).group (left - 1) 1 (omega arith) (subst P (sym (same_Some _ _ next.1)) h.ends) in
        let some = ltb-true 0 left next.0 in
        let same : suc (left - 1) ≡ left = omega (arith, some) in
        let Q : ℕ → Type 0 = Groups (c ∷ cs) in
        subst Q same (joined_tail c cs (left - 1) h.digit tail)

gaps_follow : GapsFollow false
gaps_follow left rest e ends = gap_groups left rest ends

-- ---- the whole text

shortened_by : (left_text left right_text right : List ℕ) → IsGroupsText left_text left → IsGroupsText right_text right
    → length left + length right ≤ 7 → (a : ℕ) × IsAddressText (left_text ++ (58 ∷ 58 ∷ right_text)) a
shortened_by left_text left right_text right left_written right_written few = (
  number_of_groups (left ++ replicate (8 - (length left + length right)) 0 ++ right),
  inr (record {
    left_text = left_text;
    right_text = right_text;
    left = left;
    right = right;
    parts = refl;
    left_written = left_written;
    right_written = right_written;
    some_zeros = few;
    value = refl;
  }),
)

-- groups, with a first one that a digit begins
first_groups : (c : ℕ) (cs : List ℕ) → digit_value c < 16 → (t : Tail cs 7 1 false)
    → IsGroupsText (c ∷ (t.text ++ more_texts t.more.texts)) (digits_value 16 (c ∷ t.text) ∷ t.more.groups)
first_groups c cs digit t = record {
  texts = (c ∷ t.text) ∷ t.more.texts;
  joined = sym (joined_more (c ∷ t.text) t.more.texts);
  each = (first_group c cs 7 false digit t, t.more.each);
}

begun_text : (c : ℕ) (cs : List ℕ) → digit_value c < 16 → Tail cs 7 1 false → (a : ℕ) × IsAddressText (c ∷ cs) a
begun_text c cs digit t =
    let m = t.more in
    let front = c ∷ (t.text ++ more_texts m.texts) in
    let written = first_groups c cs digit t in
    let whole : c ∷ cs ≡ front ++ m.end =
    ap (λ r. c ∷ r) (t.parts ∙ ap (λ r. t.text ++ r) m.parts ∙ sym (append_assoc t.text (more_texts m.texts) m.end)) in
    let P : List ℕ → Type 0 = λ r. (a : ℕ) × IsAddressText r a in
    elim m.ended [
      | inl h ↦ subst P (sym (whole ∙ ap (λ r. front ++ r) h.0 ∙ append-nil front)) (
        number_of_groups (digits_value 16 (c ∷ t.text) ∷ m.groups),
        inl (record {
          groups = digits_value 16 (c ∷ t.text) ∷ m.groups;
          written = written;
          eight = omega (arith, m.sum, h.1);
          value = refl;
        }),
      )
      | inr h ↦ subst P (sym (whole ∙ ap (λ r. front ++ r) h.parts))
          (shortened_by front (digits_value 16 (c ∷ t.text) ∷ m.groups) h.right_text h.right written h.written
          (omega (arith, m.sum, h.few)))
    ]

colons_text : (cs : List ℕ) → EndsAt (reached Colon cs) → (a : ℕ) × IsAddressText (58 ∷ cs) a
unfolding walked behind_digit behind_colon
colons_text [] ends = absurd (false≢true ends)
colons_text (c ∷ cs) ends =
    elim (first_step Colon c cs ends) [
      | inl h ↦ absurd (none-some h.next h.is_next)
      | inr h ↦ whole h
    ]
  where
    whole : (h : ColonStep Colon c cs) → (a : ℕ) × IsAddressText (58 ∷ c ∷ cs) a
    whole h =
        let P : Scanned → Type 0 = λ q. EndsAt (reached q cs) in
        let Q : ℕ → Type 0 = λ n. (a : ℕ) × IsAddressText (58 ∷ n ∷ cs) a in
        let right = gap_groups 7 cs (subst P (sym (same_Some _ _ h.is_next)) h.ends) in
        subst Q (sym h.colon)
        (shortened_by [] [] cs right.groups (record { texts = []; joined = refl; each = tt }) right.written (omega (arith, right.few)))

-- what leads to an end is an address
pub ended_text : (text : List ℕ) → EndsAt (reached Start text) → (a : ℕ) × IsAddressText text a
unfolding walked behind_digit behind_colon
ended_text [] ends = absurd (false≢true ends)
ended_text (c ∷ cs) ends =
    elim (first_step Start c cs ends) [ inl h ↦ by_digit h | inr h ↦ by_colon h ]
  where
    by_digit : DigitStep Start c cs → (a : ℕ) × IsAddressText (c ∷ cs) a
    by_digit h =
        let P : Scanned → Type 0 = λ q. EndsAt (reached q cs) in
        begun_text c cs h.digit
        ((tails false gaps_follow cs).group 7 1 (omega arith) (subst P (sym (same_Some _ _ h.is_next)) h.ends))

    by_colon : ColonStep Start c cs → (a : ℕ) × IsAddressText (c ∷ cs) a
    by_colon h =
        let P : Scanned → Type 0 = λ q. EndsAt (reached q cs) in
        let Q : ℕ → Type 0 = λ n. (a : ℕ) × IsAddressText (n ∷ cs) a in
        subst Q (sym h.colon) (colons_text cs (subst P (sym (same_Some _ _ h.is_next)) h.ends))
