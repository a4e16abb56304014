-- the function that reads a prefix's text and the grammar as a relation say the same
use Rattle.std.proofs.Common.{◌≡◌, ℕ, suc, ◌+◌, ◌-◌, ◌*◌, ◌/◌, ◌%◌, ◌^◌, ◌<◌, ◌≤◌, ◌↔◌, inl, inr, Bool, true, false, eqb, ltb, leb, if◌then◌else◌, not, ◌&&◌, List, [], ◌∷◌, ◌++◌, length, get_or, take, drop, replicate, Option, Some, None, sym, ◌∙◌, ap, subst, refl, arith, lit<, length-append}
use Rattle.std.specs.Prelude.{option_and_then}
use Rattle.std.specs.Char.{digit_value, digit_char}
use Rattle.std.specs.List.{join_with_byte, AllZip, All, position_or_len, before_first, after_first}
use Rattle.std.specs.Str.Parse.{digits_value, AllDigits}
use Rattle.std.proofs.lemmas.Bool.{and_parts, lt-ltb, le-ltb, leb-true, eqb-true, eqb-false, false≢true, eq-eqb, ne_eqb, cond-true, cond-false, cases_lt, not-true, agree_below_at}
use Rattle.std.proofs.lemmas.Int.Digits.{digits_value-lt}
use Rattle.std.proofs.lemmas.List.{drop_all, length-replicate, get_or_append_left}
use Rattle.std.proofs.lemmas.List.Elements.{All-nil, All-cons, All-append, All-replicate, All-head, All-tail, All-get_or}
use Rattle.std.proofs.lemmas.List.Sums.{split_at_first, passes_at_first, position_or_len_is}
use Rattle.std.proofs.lemmas.Nat.{mul-add-lt, pow-add}
use Rattle.std.proofs.lemmas.Option.{same_Some, none-some}
use Rattle.std.proofs.lemmas.Str.{digit_value_digit}
use Rattle.std.proofs.lemmas.Str.Parse.{digit_from_value}
use Rattle.std.proofs.Math.Nat.{pow-le-pow_right}
use Rattle.std.proofs.Math.Seq.{take-append_seam, drop-append-add, get_or-append_seam}
use Rattle.v6_addr.specs.Address.{PrefixValue}
use Rattle.v6_addr.specs.Text.{number_of_text, number_of_groups, address_of_text, length_of_text, length_text, prefix_of_parts, prefix_of_text}
use Rattle.v6_addr.specs.AddressGrammar.{IsGroupText, IsGroupsText, IsAddressText, IsPrefixText}
use Rattle.v6_addr.proofs.GroupSums.{number_from as number_behind}
use Rattle.v6_addr.proofs.GrammarLaws.{some_cond, number_is, address_text_is}

-- ---- an address text's number is an address

group_below : (text : List ℕ) (g : ℕ) → IsGroupText text g → g < 65536
group_below text g h = omega (arith, h.3, digits_value-lt 16 text h.2, pow-le-pow_right {n = 16} (lit< tt) h.1)

groups_below : (texts : List (List ℕ)) (groups : List ℕ) → AllZip IsGroupText texts groups → All (λ g. g < 65536) groups
groups_below [] [] h = All-nil (λ g. g < 65536)
groups_below [] (g ∷ gs) h = absurd h
groups_below (t ∷ ts) [] h = absurd h
groups_below (t ∷ ts) (g ∷ gs) h = All-cons (λ n. n < 65536) g gs (group_below t g h.0) (groups_below ts gs h.1)

number_below : (groups : List ℕ) → All (λ g. g < 65536) groups → number_of_groups groups < 2 ^ (16 * length groups)
unfolding number_of_groups
number_below [] below = lit< tt
number_below (g ∷ gs) below =
    let more = number_below gs (All-tail (λ n. n < 65536) g gs below) in
    let here : 0 * 2 ^ 16 + g < 65536 = omega (arith, All-head (λ n. n < 65536) g gs below) in
    let sum : 16 * suc (length gs) ≡ 16 * length gs + 16 = omega arith in
    rw (number_behind (0 * 2 ^ 16 + g) gs, sum, pow-add 2 (16 * length gs) 16)
    (mul-add-lt (0 * 2 ^ 16 + g) (2 ^ (16 * length gs)) _ 65536 here more)

eight_below : (groups : List ℕ) → length groups ≡ 8 → All (λ g. g < 65536) groups → number_of_groups groups < 2 ^ 128
eight_below groups eight below =
    let P : ℕ → Type 0 = λ n. number_of_groups groups < 2 ^ (16 * n) in
    subst P eight (number_below groups below)

pub address_below : (text : List ℕ) (a : ℕ) → IsAddressText text a → a < 2 ^ 128
address_below text a (inl full) =
    let P : ℕ → Type 0 = λ n. n < 2 ^ 128 in
    subst P (sym full.value) (eight_below full.groups full.eight (groups_below full.written.texts full.groups full.written.each))
address_below text a (inr h) =
    let P : ℕ → Type 0 = λ n. n < 2 ^ 128 in
    let zeros = 8 - (length h.left + length h.right) in
    let front = h.left ++ replicate zeros 0 in
    let eight : length (front ++ h.right) ≡ 8 =
    omega (arith, h.some_zeros, length-append front h.right, length-append h.left (replicate zeros 0), length-replicate {A = ℕ} zeros 0) in
    let below = All-append (λ g. g < 65536) front h.right
    (All-append (λ g. g < 65536) h.left (replicate zeros 0) (groups_below h.left_written.texts h.left h.left_written.each)
    (All-replicate (λ g. g < 65536) zeros 0 (lit< tt)))
    (groups_below h.right_written.texts h.right h.right_written.each) in
    subst P (sym h.value) (eight_below (front ++ h.right) eight below)

-- ---- no slash is in an address text

abbrev pub NoSlash : List ℕ → Type 0
NoSlash text = All (λ c. eqb c 47 ≡ false) text

digit_no_slash : (c : ℕ) → digit_value c < 16 → eqb c 47 ≡ false
digit_no_slash c digit = ne_eqb c 47 (λ e. let P : ℕ → Type 0 = λ n. digit_value n < 16 in absurd (omega (arith, subst P e digit)))

digits_no_slash : (text : List ℕ) → AllDigits 16 text → NoSlash text
digits_no_slash [] h = All-nil (λ c. eqb c 47 ≡ false)
digits_no_slash (c ∷ cs) h = All-cons (λ d. eqb d 47 ≡ false) c cs (digit_no_slash c h.0) (digits_no_slash cs h.1)

joined_no_slash : (texts : List (List ℕ)) (groups : List ℕ) → AllZip IsGroupText texts groups → NoSlash (join_with_byte 58 texts)
joined_no_slash [] groups h = All-nil (λ c. eqb c 47 ≡ false)
joined_no_slash (t ∷ ts) [] h = absurd h
joined_no_slash (t ∷ []) (g ∷ gs) h = digits_no_slash t h.0.2
joined_no_slash (t ∷ u ∷ us) (g ∷ gs) h =
    let P : ℕ → Type 0 = λ c. eqb c 47 ≡ false in
    All-append P t (58 ∷ join_with_byte 58 (u ∷ us)) (digits_no_slash t h.0.2)
    (All-cons P 58 (join_with_byte 58 (u ∷ us)) refl (joined_no_slash (u ∷ us) gs h.1))

groups_no_slash : (text groups : List ℕ) → IsGroupsText text groups → NoSlash text
groups_no_slash text groups h = subst NoSlash (sym h.joined) (joined_no_slash h.texts groups h.each)

pub address_no_slash : (text : List ℕ) (a : ℕ) → IsAddressText text a → NoSlash text
address_no_slash text a (inl full) = groups_no_slash text full.groups full.written
address_no_slash text a (inr h) =
    let P : ℕ → Type 0 = λ c. eqb c 47 ≡ false in
    subst NoSlash (sym h.parts)
    (All-append P h.left_text (58 ∷ 58 ∷ h.right_text) (groups_no_slash h.left_text h.left h.left_written)
    (All-cons P 58 (58 ∷ h.right_text) refl (All-cons P 58 h.right_text refl (groups_no_slash h.right_text h.right h.right_written))))

-- ---- a length

pub digit_back : (c : ℕ) → digit_value c < 10 → digit_char (digit_value c) ≡ c
digit_back c digit =
    let sum = digit_value_digit c (digit_from_value c digit) in
    cond-true _ _ _ (lt-ltb (digit_value c) 10 digit) ∙ lemma (digit_value c) sum
  where
    lemma : (v : ℕ) → v + 48 ≡ c → 48 + v ≡ c
    lemma v sum = omega arith

-- the length that a text writes, where it is at most 128
short_length : (n : ℕ) (o : Option ℕ) → option_and_then (λ m. if leb m 128 then Some m else None) o ≡ Some n → (n ≤ 128) × (o ≡ Some n)
short_length n None e = absurd (none-some n e)
short_length n (Some m) e =
    let parts = some_cond (leb m 128) (Some m) n e in
    let same : m ≡ n = same_Some m n parts.1 in
    let small : m ≤ 128 = leb-true m 128 parts.0 in
    (omega arith, ap Some same)

-- ---- the digits of a length

pub length_text_1 : (n : ℕ) → n < 10 → length_text n ≡ digit_char n ∷ []
unfolding length_text
length_text_1 n below = cond-true _ _ _ (lt-ltb n 10 below)

pub length_text_2 : (n : ℕ) → 10 ≤ n → n < 100 → length_text n ≡ digit_char (n / 10) ∷ digit_char (n % 10) ∷ []
unfolding length_text
length_text_2 n above below = cond-false _ _ _ (le-ltb n 10 above) ∙ cond-true _ _ _ (lt-ltb n 100 below)

pub length_text_3 : (n : ℕ) → 100 ≤ n → length_text n ≡ digit_char (n / 100) ∷ digit_char (n / 10 % 10) ∷ digit_char (n % 10) ∷ []
unfolding length_text
length_text_3 n above = cond-false _ _ _ (le-ltb n 10 (omega arith)) ∙ cond-false _ _ _ (le-ltb n 100 above)

one_digit : (a : ℕ) → a < 10 → length_text (0 * 10 + a) ≡ digit_char a ∷ []
one_digit a below =
    let n = 0 * 10 + a in
    let last : n ≡ a = omega arith in
    length_text_1 n (omega arith) ∙ ap (λ d. digit_char d ∷ []) last

two_digits : (a b : ℕ) → 1 ≤ a → a < 10 → b < 10 → length_text ((0 * 10 + a) * 10 + b) ≡ digit_char a ∷ digit_char b ∷ []
two_digits a b some below_a below_b =
    let n = (0 * 10 + a) * 10 + b in
    let first : n / 10 ≡ a = omega arith in
    let last : n % 10 ≡ b = omega arith in
    length_text_2 n (omega arith) (omega arith) ∙ ap (λ d. digit_char d ∷ digit_char (n % 10) ∷ []) first
    ∙ ap (λ d. digit_char a ∷ digit_char d ∷ []) last

three_digits : (a b c : ℕ) → 1 ≤ a → a < 10 → b < 10 → c < 10
    → length_text (((0 * 10 + a) * 10 + b) * 10 + c) ≡ digit_char a ∷ digit_char b ∷ digit_char c ∷ []
three_digits a b c some below_a below_b below_c =
    let n = ((0 * 10 + a) * 10 + b) * 10 + c in
    let first : n / 100 ≡ a = omega arith in
    let middle : n / 10 % 10 ≡ b = omega arith in
    let last : n % 10 ≡ c = omega arith in
    length_text_3 n (omega arith) ∙ ap (λ d. digit_char d ∷ digit_char (n / 10 % 10) ∷ digit_char (n % 10) ∷ []) first
    ∙ ap (λ d. digit_char a ∷ digit_char d ∷ digit_char (n % 10) ∷ []) middle
    ∙ ap (λ d. digit_char a ∷ digit_char b ∷ digit_char d ∷ []) last

-- a first digit that isn't `0` has a value
leading : (c : ℕ) → digit_value c < 10 → eqb c 48 ≡ false → 1 ≤ digit_value c
leading c digit other =
    elim (cases_lt 0 (digit_value c)) [
      | inl some ↦ some
      | inr none ↦ absurd (eqb-false c 48 other (is_zero (digit_value c) none (digit_value_digit c (digit_from_value c digit))))
    ]
  where
    is_zero : (v : ℕ) → v ≤ 0 → v + 48 ≡ c → c ≡ 48
    is_zero v none sum = omega arith

digits_shape : (text : List ℕ) → AllDigits 10 text → 1 ≤ length text → length text ≤ 3
    → not (ltb 1 (length text) && eqb (get_or text 0 0) 48) ≡ true → text ≡ length_text (digits_value 10 text)
digits_shape [] h some few lead = absurd (omega arith)
digits_shape (c ∷ []) h some few lead = sym (one_digit (digit_value c) h.0 ∙ ap (λ d. d ∷ []) (digit_back c h.0))
digits_shape (c ∷ d ∷ []) h some few lead =
    sym (two_digits (digit_value c) (digit_value d) (leading c h.0 (not-true (eqb c 48) lead)) h.0 h.1.0
    ∙ ap (λ x. x ∷ digit_char (digit_value d) ∷ []) (digit_back c h.0) ∙ ap (λ x. c ∷ x ∷ []) (digit_back d h.1.0))
digits_shape (c ∷ d ∷ e ∷ []) h some few lead =
    sym (three_digits (digit_value c) (digit_value d) (digit_value e) (leading c h.0 (not-true (eqb c 48) lead)) h.0 h.1.0 h.1.1.0
    ∙ ap (λ x. x ∷ digit_char (digit_value d) ∷ digit_char (digit_value e) ∷ []) (digit_back c h.0)
    ∙ ap (λ x. c ∷ x ∷ digit_char (digit_value e) ∷ []) (digit_back d h.1.0) ∙ ap (λ x. c ∷ d ∷ x ∷ []) (digit_back e h.1.1.0))
digits_shape (c ∷ d ∷ e ∷ f ∷ more) h some few lead = absurd (omega arith)

pub length_is : (text : List ℕ) (n : ℕ) → length_of_text text ≡ Some n → (n ≤ 128) × (text ≡ length_text n)
unfolding length_of_text
length_is text n e =
    let outer = some_cond _ _ n e in
    let short = short_length n (number_of_text 10 text) outer.1 in
    let number = number_is 10 text n short.1 in
    let tests = and_parts _ _ outer.0 in
    let lengths = and_parts _ _ tests.0 in (
      short.0,
      digits_shape text number.0 (leb-true 1 (length text) lengths.0) (leb-true (length text) 3 lengths.1) tests.1
          ∙ ap length_text (sym number.1),
    )

abbrev is_same : ℕ → Option ℕ → Bool
is_same n None = false
is_same n (Some m) = eqb m n

same_from : (n : ℕ) (o : Option ℕ) → is_same n o ≡ true → o ≡ Some n
same_from n None h = absurd (false≢true h)
same_from n (Some m) h = ap Some (eqb-true m n h)

pub length_reads : (n : ℕ) → n ≤ 128 → length_of_text (length_text n) ≡ Some n
unfolding length_of_text length_text number_of_text
length_reads n short =
    same_from n (length_of_text (length_text n))
    (agree_below_at (λ m. is_same m (length_of_text (length_text m))) (λ m. true) 129 n refl (omega arith))

pub no_length_of_nothing : (n : ℕ) → length_of_text [] ≡ Some n → ⊥
unfolding length_of_text
no_length_of_nothing n e = none-some n e

-- ---- the whole text

parts_some : (value len : Option ℕ) (p : PrefixValue) → prefix_of_parts value len ≡ Some p
    → (value ≡ Some p.value) × (len ≡ Some p.len) × (p.value % 2 ^ (128 - p.len) ≡ 0)
unfolding prefix_of_parts
parts_some None len p e = absurd (none-some p e)
parts_some (Some v) None p e = absurd (none-some p e)
parts_some (Some v) (Some n) p e =
    let whole = some_cond _ _ p e in
    let same = same_Some _ p whole.1 in
    let P : PrefixValue → Type 0 = λ q. q.value % 2 ^ (128 - q.len) ≡ 0 in
    (ap (λ (q : PrefixValue). Some q.value) same, ap (λ (q : PrefixValue). Some q.len) same, subst P same (eqb-true _ _ whole.0))

parts_make : (p : PrefixValue) → p.value % 2 ^ (128 - p.len) ≡ 0 → prefix_of_parts (Some p.value) (Some p.len) ≡ Some p
unfolding prefix_of_parts
parts_make p clear = cond-true _ _ _ (eq-eqb _ _ clear)

-- a text is an address, a slash and a length, by what these are read as
pub record ReadsParts (address_of length_of : List ℕ → Option ℕ) (text : List ℕ) (p : PrefixValue) : Type 0 where
  pub front : List ℕ
  pub back : List ℕ
  pub parts : text ≡ front ++ (47 ∷ back)
  pub address : address_of front ≡ Some p.value
  pub len : length_of back ≡ Some p.len
  pub clear : p.value % 2 ^ (128 - p.len) ≡ 0

pub parts_are : (address_of length_of : List ℕ → Option ℕ) → ((n : ℕ) → length_of [] ≡ Some n → ⊥) → (text : List ℕ) (p : PrefixValue)
    → prefix_of_parts (address_of (before_first (λ b. eqb b 47) text)) (length_of (after_first (λ b. eqb b 47) text)) ≡ Some p
    → ReadsParts address_of length_of text p
parts_are address_of length_of none text p e =
    let slash : ℕ → Bool = λ b. eqb b 47 in
    let place = position_or_len slash text in
    let parts = parts_some _ _ p e in
    let within : place < length text = elim (cases_lt place (length text)) [
      | inl inside ↦ inside
      | inr past ↦ absurd (none p.len (ap length_of (sym (drop_all (place + 1) text (omega arith))) ∙ parts.1))
    ] in
    record {
      front = take place text;
      back = drop (place + 1) text;
      parts = split_at_first slash text 0 within
          ∙ ap (λ c. take place text ++ (c ∷ drop (place + 1) text)) (eqb-true _ _ (passes_at_first slash text 0 within));
      address = parts.0;
      len = parts.1;
      clear = parts.2;
    }

pub parts_read : (address_of length_of : List ℕ → Option ℕ) (front back : List ℕ) (p : PrefixValue) → NoSlash front
    → address_of front ≡ Some p.value → length_of back ≡ Some p.len → p.value % 2 ^ (128 - p.len) ≡ 0
    → prefix_of_parts (address_of (before_first (λ b. eqb b 47) (front ++ (47 ∷ back))))
    (length_of (after_first (λ b. eqb b 47) (front ++ (47 ∷ back)))) ≡ Some p
parts_read address_of length_of front back p none address len clear =
    let slash : ℕ → Bool = λ b. eqb b 47 in
    let whole = front ++ (47 ∷ back) in
    let place : position_or_len slash whole ≡ length front =
    position_or_len_is slash whole (length front) 0 (omega (arith, length-append front (47 ∷ back)))
    (λ k below. ap slash (get_or_append_left front (47 ∷ back) 0 k below) ∙ All-get_or (λ c. slash c ≡ false) front k 0 below none)
    (λ inside. ap slash (get_or-append_seam front 47 back 0)) in
    ap (λ n. prefix_of_parts (address_of (take n whole)) (length_of (drop (n + 1) whole))) place
    ∙ ap (λ t. prefix_of_parts (address_of t) (length_of (drop (length front + 1) whole))) (take-append_seam front (47 ∷ back))
    ∙ ap (λ t. prefix_of_parts (address_of front) (length_of t)) (drop-append-add front (47 ∷ back) 1)
    ∙ ap (λ o. prefix_of_parts o (length_of back)) address
    ∙ ap (prefix_of_parts (Some p.value)) len
    ∙ parts_make p clear

prefix_is : (text : List ℕ) (p : PrefixValue) → prefix_of_text text ≡ Some p → IsPrefixText text p
unfolding prefix_of_text
prefix_is text p e =
    let read = parts_are address_of_text length_of_text no_length_of_nothing text p e in
    let len = length_is read.back p.len read.len in
    let address = (address_text_is read.front p.value).0 read.address in
    record {
      address_part = read.front;
      parts = read.parts ∙ ap (λ t. read.front ++ (47 ∷ t)) len.1;
      address = address;
      is_prefix = (len.0, address_below read.front p.value address, read.clear);
    }

prefix_from : (text : List ℕ) (p : PrefixValue) → IsPrefixText text p → prefix_of_text text ≡ Some p
unfolding prefix_of_text
prefix_from text p h =
    ap prefix_of_text h.parts
    ∙ parts_read address_of_text length_of_text h.address_part (length_text p.len) p (address_no_slash h.address_part p.value h.address)
    ((address_text_is h.address_part p.value).1 h.address) (length_reads p.len h.is_prefix.0) h.is_prefix.2

pub prefix_text_is : (text : List ℕ) (p : PrefixValue) → (prefix_of_text text ≡ Some p) ↔ IsPrefixText text p
prefix_text_is text p = (prefix_is text p, prefix_from text p)
