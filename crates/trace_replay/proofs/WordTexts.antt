-- What is written of numbers, bytes, families, reasons, names and prefixes are words, and these read as it.
use Rattle.std.proofs.Common.{◌≡◌, ℕ, zero, suc, ◌*◌, ◌/◌, ◌%◌, ◌^◌, ◌<◌, ◌≤◌, inl, inr, Bool, true, false, List, [], ◌∷◌, ◌++◌, length, All, Some, None, refl, sym, ap, ◌∙◌, subst, arith, lit<, nat_lt}
use Rattle.std.specs.Prelude.{nat_le, ◌==◌, ◌&&◌, ◌||◌, not, if◌then◌else◌, bytes_eq, is_some, slice_index}
use Rattle.std.specs.Char.{digit_char, digit_value, is_ascii_digit}
use Rattle.std.specs.Fmt.{decimal}
use Rattle.std.specs.List.{AllZip, join_with_byte, list_all}
use Rattle.std.specs.Str.Parse.{AllDigits, digits_value}
use Rattle.std.proofs.lemmas.Bool.{and_parts, cases_lt, le-leb, lt-ltb, ne_eqb, or_right}
use Rattle.std.proofs.lemmas.Bool.Decides.{nat_tests}
use Rattle.std.proofs.lemmas.Fmt.{decimal_digit, decimal_is_IsNumeral, digits_decimal, first_decimal}
use Rattle.std.proofs.lemmas.List.Elements.{All-head, All-tail}
use Rattle.std.proofs.lemmas.List.Folds.{list_all-append}
use Rattle.std.proofs.lemmas.Slice.Eq.{bytes_eq-Decides}
use Rattle.hex.specs.Hex.{decode_of, encode_lower, encode_with, lower_digits}
use Rattle.hex.proofs.HexLemmas.{decode_of-encode_lower, length-encode_with}
use Rattle.v6_addr.specs.Address.{PrefixValue}
use Rattle.v6_addr.specs.AddressTerms.{IsPrefix}
use Rattle.v6_addr.specs.AddressGrammar.{IsAddressText, IsGroupText, IsGroupsText}
use Rattle.v6_addr.specs.Text.{length_text, prefix_text}
use Rattle.v6_addr.proofs.PrefixGrammar.{length_text_1, length_text_2, length_text_3, prefix_text_is}
use Rattle.v6_addr.proofs.RoundTrip.{prefix_read_back}
use Rattle.srv6_rules.specs.declared.family.Family.{Family}
use Rattle.srv6_rules.specs.declared.family.Family.TheVariants as families
use Rattle.net_model.specs.NetworkRules.{is_name, is_name_byte}
use Rattle.trace_replay.specs.TraceGrammar.{bytes_decoded, family_read, hex_read, is_digits, is_hex, is_lower_digit, is_number, is_numeral, is_prefix}
use Rattle.trace_replay.specs.TraceLines.{family_number, hex_text}
use Rattle.trace_replay.proofs.ReplayNumberLemmas.{digits_model}
use Rattle.trace_replay.proofs.Splitting.{IsWord, both, is_word_byte, pass_more}

-- ---- bytes

lower_word : (c : ℕ) → is_lower_digit c ≡ true → is_word_byte c ≡ true
lower_word c h = grind (arith, nat_tests)

abbrev all_lower : ℕ → Bool
all_lower zero = true
all_lower (suc n) = is_lower_digit (slice_index lower_digits n) && all_lower n

lower_below : (n k : ℕ) → all_lower n ≡ true → k < n → is_lower_digit (slice_index lower_digits k) ≡ true
lower_below zero k h below = absurd (omega arith)
lower_below (suc n) k h below =
    let parts = and_parts (is_lower_digit (slice_index lower_digits n)) (all_lower n) h in
    elim (cases_lt k n) [
      | inl less ↦ lower_below n k parts.1 less
      | inr top ↦
          let e : k ≡ n = omega arith in
          rw e parts.0
    ]

lower_digit : (k : ℕ) → k < 16 → is_lower_digit (slice_index lower_digits k) ≡ true
lower_digit k below = lower_below 16 k refl below

lower_encoded : (bytes : List ℕ) → All (λ b. b < 2 ^ 8) bytes → list_all is_lower_digit (encode_lower bytes) ≡ true
unfolding encode_with
lower_encoded [] h = refl
lower_encoded (b ∷ bs) h =
    let fits : b < 256 = All-head (λ b. b < 2 ^ 8) b bs h in
    both _ _ (lower_digit (b / 16) (omega arith))
    (both _ _ (lower_digit (b % 16) (omega arith)) (lower_encoded bs (All-tail (λ b. b < 2 ^ 8) b bs h)))

digits_encoded : (b : ℕ) (bs : List ℕ) → All (λ b. b < 2 ^ 8) (b ∷ bs) → is_digits (encode_lower (b ∷ bs)) ≡ true
digits_encoded b bs h =
    let word = encode_lower (b ∷ bs) in
    let len : length word ≡ 2 * length (b ∷ bs) = length-encode_with lower_digits (b ∷ bs) in
    let some : (length word == 0) ≡ false = ne_eqb (length word) 0 (λ e. omega (arith, len, e)) in
    let even : length word % 2 ≡ 0 = omega (arith, len) in
    both (not (length word == 0)) ((length word % 2 == 0) && list_all is_lower_digit word) (ap not some)
    (both (length word % 2 == 0) (list_all is_lower_digit word) (ap (λ k. k == 0) even) (lower_encoded (b ∷ bs) h))

no_dash : (b : ℕ) (bs : List ℕ) → bytes_eq (encode_lower (b ∷ bs)) (45 ∷ []) ≡ false
no_dash b bs = by_test (bytes_eq (encode_lower (b ∷ bs)) (45 ∷ [])) refl
  where
    by_test : (t : Bool) → bytes_eq (encode_lower (b ∷ bs)) (45 ∷ []) ≡ t → t ≡ false
    by_test false e = refl
    by_test true e =
        let same = (bytes_eq-Decides (encode_lower (b ∷ bs)) (45 ∷ [])).0 e in
        absurd (omega (arith, length-encode_with lower_digits (b ∷ bs), ap length same))

is_bytes : (bytes : List ℕ) → All (λ b. b < 2 ^ 8) bytes → (i : ℕ) → slice_index bytes i < 256
is_bytes [] h i = lit< tt
is_bytes (b ∷ bs) h zero = All-head (λ b. b < 2 ^ 8) b bs h
is_bytes (b ∷ bs) h (suc i) = is_bytes bs (All-tail (λ b. b < 2 ^ 8) b bs h) i

pub hex_word : (bytes : List ℕ) → All (λ b. b < 2 ^ 8) bytes → IsWord (hex_text bytes)
unfolding hex_text
hex_word [] h = refl
hex_word (b ∷ bs) h = pass_more is_lower_digit is_word_byte lower_word (encode_lower (b ∷ bs)) (lower_encoded (b ∷ bs) h)

pub hex_hex : (bytes : List ℕ) → All (λ b. b < 2 ^ 8) bytes → is_hex (hex_text bytes) ≡ true
unfolding hex_text
hex_hex [] h = refl
hex_hex (b ∷ bs) h = or_right (bytes_eq (encode_lower (b ∷ bs)) (45 ∷ [])) (is_digits (encode_lower (b ∷ bs))) (digits_encoded b bs h)

pub hex_back : (bytes : List ℕ) → All (λ b. b < 2 ^ 8) bytes → hex_read (hex_text bytes) ≡ Some bytes
unfolding hex_text
hex_back [] h = refl
hex_back (b ∷ bs) h =
    let word = encode_lower (b ∷ bs) in
    ap (λ (t : Bool). if t then Some [] else if is_digits word then bytes_decoded (decode_of word) else None) (no_dash b bs)
    ∙ (ap (λ (t : Bool). if t then bytes_decoded (decode_of word) else None) (digits_encoded b bs h)
    ∙ ap bytes_decoded (decode_of-encode_lower (b ∷ bs) (is_bytes (b ∷ bs) h)))

-- ---- numbers

digit_word : (c : ℕ) → is_ascii_digit c ≡ true → is_word_byte c ≡ true
digit_word c h = grind (arith, nat_tests)

decimal_digits : (n : ℕ) → n < 2 ^ 32 → list_all is_ascii_digit (decimal n) ≡ true
decimal_digits n h = digits_decimal digits_model n (omega arith)

pub decimal_word : (n : ℕ) → n < 2 ^ 32 → IsWord (decimal n)
decimal_word n h = pass_more is_ascii_digit is_word_byte digit_word (decimal n) (decimal_digits n h)

first_digit : (n : ℕ) → n < 2 ^ 32 → ((length (decimal n) == 1) || not (slice_index (decimal n) 0 == 48)) ≡ true
first_digit zero h = rw (decimal_digit 0 (lit< tt)) refl
first_digit (suc n) h =
    let above = first_decimal (suc n) (omega arith) (omega arith) in
    or_right (length (decimal (suc n)) == 1) (not (slice_index (decimal (suc n)) 0 == 48))
    (ap not (ne_eqb (slice_index (decimal (suc n)) 0) 48 (λ e. omega (arith, above, e))))

decimal_numeral : (n : ℕ) → n < 2 ^ 32 → is_numeral (decimal n) ≡ true
decimal_numeral n h =
    let word = decimal n in
    let is = decimal_is_IsNumeral n (omega arith) in
    let some : (length word == 0) ≡ false = ne_eqb (length word) 0 (λ e. omega (arith, is.0.0, e)) in
    both (not (length word == 0)) (((length word == 1) || not (slice_index word 0 == 48)) && list_all is_ascii_digit word) (ap not some)
    (both ((length word == 1) || not (slice_index word 0 == 48)) (list_all is_ascii_digit word) (first_digit n h) (decimal_digits n h))

pub decimal_number : (most n : ℕ) → n < 2 ^ 32 → n ≤ most → is_number most (decimal n) ≡ true
decimal_number most n h few =
    let word = decimal n in
    let value : digits_value 10 word ≡ n = (decimal_is_IsNumeral n (omega arith)).1 in
    both (is_numeral word) (nat_lt (digits_value 10 word) (2 ^ 32) && nat_le (digits_value 10 word) most) (decimal_numeral n h)
    (ap (λ k. nat_lt k (2 ^ 32) && nat_le k most) value
    ∙ both (nat_lt n (2 ^ 32)) (nat_le n most) (lt-ltb n (2 ^ 32) h) (le-leb n most few))

pub family_word : (family : Family) → IsWord (decimal (family_number family))
family_word families.V6 = decimal_word 6 (lit< tt)
family_word families.V4 = decimal_word 4 (lit< tt)

pub family_back : (family : Family) → family_read (decimal (family_number family)) ≡ Some family
family_back families.V6 = ap family_read (decimal_digit 6 (lit< tt))
family_back families.V4 = ap family_read (decimal_digit 4 (lit< tt))

-- ---- names

name_word_byte : (c : ℕ) → is_name_byte c ≡ true → is_word_byte c ≡ true
name_word_byte c h = grind (arith, nat_tests)

pub name_word : (name : List ℕ) → is_name name ≡ true → IsWord name
name_word name h =
    let rest = and_parts (nat_le 1 (length name)) _ h in
    let each = and_parts _ (list_all is_name_byte name) rest.1 in
    pass_more is_name_byte is_word_byte name_word_byte name each.1

-- ---- prefixes

hex_digit_word : (c : ℕ) → digit_value c < 16 → is_word_byte c ≡ true
hex_digit_word c h = grind (arith, nat_tests)

digits_word : (text : List ℕ) → AllDigits 16 text → IsWord text
digits_word [] h = refl
digits_word (c ∷ cs) h = both (is_word_byte c) (list_all is_word_byte cs) (hex_digit_word c h.0) (digits_word cs h.1)

pub append_word : (xs ys : List ℕ) → IsWord xs → IsWord ys → IsWord (xs ++ ys)
append_word xs ys h g =
    list_all-append is_word_byte xs ys ∙ both (list_all is_word_byte xs) (list_all is_word_byte ys) h g

texts_word : (texts : List (List ℕ)) (groups : List ℕ) → AllZip IsGroupText texts groups → IsWord (join_with_byte 58 texts)
texts_word [] groups h = refl
texts_word (t ∷ ts) [] h = absurd h
texts_word (t ∷ []) (g ∷ gs) h = digits_word t h.0.2
texts_word (t ∷ u ∷ us) (g ∷ gs) h =
    append_word t (58 ∷ join_with_byte 58 (u ∷ us)) (digits_word t h.0.2) (texts_word (u ∷ us) gs h.1)

groups_word : (text groups : List ℕ) → IsGroupsText text groups → IsWord text
groups_word text groups h = subst IsWord (sym h.joined) (texts_word h.texts groups h.each)

address_word : (text : List ℕ) (a : ℕ) → IsAddressText text a → IsWord text
address_word text a (inl full) = groups_word text full.groups full.written
address_word text a (inr h) =
    subst IsWord (sym h.parts)
    (append_word h.left_text (58 ∷ 58 ∷ h.right_text) (groups_word h.left_text h.left h.left_written)
    (groups_word h.right_text h.right h.right_written))

digit_char_word : (d : ℕ) → d < 10 → is_word_byte (digit_char d) ≡ true
digit_char_word d h = grind (arith, nat_tests)

length_word : (n : ℕ) → n ≤ 128 → IsWord (length_text n)
length_word n few =
    elim (cases_lt n 10) [
      | inl small ↦ subst IsWord (sym (length_text_1 n small)) (both _ _ (digit_char_word n small) refl)
      | inr above10 ↦ elim (cases_lt n 100) [
        | inl small ↦
            subst IsWord (sym (length_text_2 n above10 small))
            (both _ _ (digit_char_word (n / 10) (omega arith)) (both _ _ (digit_char_word (n % 10) (omega arith)) refl))
        | inr above100 ↦
            subst IsWord (sym (length_text_3 n above100))
            (both _ _ (digit_char_word (n / 100) (omega arith))
            (both _ _ (digit_char_word (n / 10 % 10) (omega arith)) (both _ _ (digit_char_word (n % 10) (omega arith)) refl)))
      ]
    ]

pub prefix_word : (p : PrefixValue) → IsPrefix p → IsWord (prefix_text p)
prefix_word p is =
    let text = (prefix_text_is (prefix_text p) p).0 (prefix_read_back p is) in
    subst IsWord (sym text.parts)
    (append_word text.address_part (47 ∷ length_text p.len) (address_word text.address_part p.value text.address) (length_word p.len is.0))

pub prefix_back : (p : PrefixValue) → IsPrefix p → is_prefix (prefix_text p) ≡ true
prefix_back p is = ap is_some (prefix_read_back p is)
