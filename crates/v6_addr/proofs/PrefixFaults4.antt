-- the texts of IPv4 prefixes: what a reader finds, and the place of a fault
use Rattle.std.proofs.Common.{◌≡◌, ℕ, suc, ◌+◌, ◌-◌, ◌*◌, ◌/◌, ◌%◌, ◌^◌, ◌<◌, ◌≤◌, inl, inr, false, eqb, List, [], ◌∷◌, ◌++◌, length, take, drop, get_or, Some, None, sym, ◌∙◌, ap, subst, refl, arith}
use Rattle.std.specs.Char.{digit_char}
use Rattle.std.proofs.lemmas.Bool.{cases_lt, ne_eqb, cond-true, lt-ltb}
use Rattle.std.proofs.lemmas.List.Elements.{All-nil, All-cons, All-append}
use Rattle.std.proofs.lemmas.Option.{same_Some, none-some}
use Rattle.std.proofs.Math.Nat.{mul-mod_left}
use Rattle.v6_addr.specs.declared.scan4.Place4.{Place4}
use Rattle.v6_addr.specs.Address.{PrefixValue}
use Rattle.v6_addr.specs.AddressTerms.{IsPrefix}
use Rattle.v6_addr.specs.AddressFaults.{Begins, IsLongestBeginning, IsPrefixFault}
use Rattle.v6_addr.specs.LengthsTerms.{IsLengthOf}
use Rattle.v6_addr.specs.Scan.{walked}
use Rattle.v6_addr.specs.Scan4.{start4, behind4, address_at}
use Rattle.v6_addr.specs.Text.{length_of_text, length_text}
use Rattle.v6_addr.specs.Text4.{dotted_text}
use Rattle.v6_addr.specs.Text4Terms.{IsAddress4Text, IsPrefix4Text}
use Rattle.v6_addr.proofs.Places4.{one_address4, no_address4}
use Rattle.v6_addr.proofs.PrefixGrammar.{NoSlash, length_text_1, length_text_2, length_text_3, length_is, length_reads}
use Rattle.v6_addr.proofs.PrefixFaults.{Texts, PrefixTextOf, fault_in_address, fault_of_bits, fault_in_length, fault_said, no_prefix_in_address, no_prefix_in_length, no_prefix_of_bits, text_round_slash}

-- ---- the texts of addresses

digit_no_slash : (d : ℕ) → d < 10 → eqb (digit_char d) 47 ≡ false
digit_no_slash d below =
    let char : digit_char d ≡ 48 + d = cond-true _ _ _ (lt-ltb d 10 below) in
    ne_eqb (digit_char d) 47 (λ e. absurd (no_slash (sym char ∙ e)))
  where
    no_slash : 48 + d ≡ 47 → ⊥
    no_slash e = omega arith

one_no_slash : (d : ℕ) (more : List ℕ) → d < 10 → NoSlash more → NoSlash (digit_char d ∷ more)
one_no_slash d more below none = All-cons (λ c. eqb c 47 ≡ false) (digit_char d) more (digit_no_slash d below) none

number_no_slash : (n : ℕ) → n ≤ 255 → NoSlash (length_text n)
number_no_slash n small =
    let nothing = All-nil (λ c. eqb c 47 ≡ false) in
    elim (cases_lt n 10) [
      | inl one ↦ subst NoSlash (sym (length_text_1 n one)) (one_no_slash n [] one nothing)
      | inr more ↦ elim (cases_lt n 100) [
        | inl two ↦ subst NoSlash (sym (length_text_2 n more two))
            (one_no_slash (n / 10) (digit_char (n % 10) ∷ []) (omega arith) (one_no_slash (n % 10) [] (omega arith) nothing))
        | inr three ↦ subst NoSlash (sym (length_text_3 n three))
            (one_no_slash (n / 100) (digit_char (n / 10 % 10) ∷ digit_char (n % 10) ∷ []) (omega arith)
            (one_no_slash (n / 10 % 10) (digit_char (n % 10) ∷ []) (omega arith) (one_no_slash (n % 10) [] (omega arith) nothing)))
      ]
    ]

dot_no_slash : (n : ℕ) (more : List ℕ) → n ≤ 255 → NoSlash more → NoSlash (length_text n ++ (46 ∷ more))
dot_no_slash n more small none =
    let P : ℕ → Type 0 = λ c. eqb c 47 ≡ false in
    All-append P (length_text n) (46 ∷ more) (number_no_slash n small) (All-cons P 46 more refl none)

pub address4_no_slash : (text : List ℕ) (a : ℕ) → IsAddress4Text text a → NoSlash text
unfolding dotted_text
address4_no_slash text a h =
    let third = dot_no_slash h.third (length_text h.fourth) h.small.2 (number_no_slash h.fourth h.small.3) in
    let rest = length_text h.third ++ (46 ∷ length_text h.fourth) in
    let second = dot_no_slash h.second rest h.small.1 third in
    subst NoSlash (sym h.written) (dot_no_slash h.first (length_text h.second ++ (46 ∷ rest)) h.small.0 second)

pub address4_fits : (text : List ℕ) (a : ℕ) → IsAddress4Text text a → a % 2 ^ (128 - 32) ≡ 0
address4_fits text a h =
    let number = ((h.first * 256 + h.second) * 256 + h.third) * 256 + h.fourth in
    ap (λ n. n % 2 ^ 96) h.value ∙ mul-mod_left number (2 ^ 96)

pub address4_below : (text : List ℕ) (a : ℕ) → IsAddress4Text text a → a < 2 ^ 128
address4_below text a h = omega (arith, h.value, h.small)

texts : Texts IsAddress4Text 32
texts = record { no_slash = address4_no_slash; one = one_address4; fits = address4_fits }

to_text : (text : List ℕ) (p : PrefixValue) → PrefixTextOf IsAddress4Text 32 text p → IsPrefix4Text text p
to_text text p h = record {
  address_part = h.address_part;
  parts = h.parts;
  address = h.address;
  short = h.short;
  is_prefix = (omega (arith, h.short), address4_below h.address_part p.value h.address, h.clear);
}

from_text : (text : List ℕ) (p : PrefixValue) → IsPrefix4Text text p → PrefixTextOf IsAddress4Text 32 text p
from_text text p h = record {
  address_part = h.address_part;
  parts = h.parts;
  address = h.address;
  short = h.short;
  clear = h.is_prefix.2;
}

-- ---- a length

pub no_length4 : (text : List ℕ) → None ≡ length_of_text text → (len : ℕ) → len ≤ 32 → text ≡ length_text len → ⊥
no_length4 text none len short e = none-some len (none ∙ ap length_of_text e ∙ length_reads len (omega arith))

pub long_length4 : (text : List ℕ) (n : ℕ) → Some n ≡ length_of_text text → 32 < n → (len : ℕ) → len ≤ 32 → text ≡ length_text len → ⊥
long_length4 text n is long len short e =
    let same = same_Some n len (is ∙ ap length_of_text e ∙ length_reads len (omega arith)) in omega (arith, same)

pub length4_is : (text : List ℕ) (n : ℕ) → Some n ≡ length_of_text text → text ≡ length_text n
length4_is text n is = (length_is text n (sym is)).1

same_length4 : (m n : ℕ) → m ≤ 32 → n ≤ 32 → length_text m ≡ length_text n → m ≡ n
same_length4 m n short_m short_n e =
    same_Some m n (sym (length_reads m (omega arith)) ∙ ap length_of_text e ∙ length_reads n (omega arith))

-- ---- faults

-- what a refusal says
abbrev pub Refused4 : List ℕ → ℕ → Type 0
Refused4 text at =
    ((p : PrefixValue) → IsPrefix4Text text p → ⊥) × IsPrefixFault IsAddress4Text 32 IsPrefix4Text text at

said4 : (text : List ℕ) (at : ℕ) → IsPrefixFault IsAddress4Text 32 (PrefixTextOf IsAddress4Text 32) text at
    → IsPrefixFault IsAddress4Text 32 IsPrefix4Text text at
said4 text at fault = fault_said IsAddress4Text 32 (PrefixTextOf IsAddress4Text 32) IsPrefix4Text text at to_text from_text fault

address_refused : (text : List ℕ) (at : ℕ) → IsLongestBeginning (Begins IsAddress4Text) text at
    → ((a : ℕ) → at < length text → get_or text at 0 ≡ 47 → IsAddress4Text (take at text) a → ⊥) → Refused4 text at
address_refused text at longest none = (
  (λ p h. no_prefix_in_address IsAddress4Text 32 texts text at longest none p (from_text text p h)),
  said4 text at (fault_in_address IsAddress4Text 32 texts text at longest none),
)

pub no_slash_refused : (text : List ℕ) (at : ℕ) → IsLongestBeginning (Begins IsAddress4Text) text at
    → (at < length text → get_or text at 0 ≡ 47 → ⊥) → Refused4 text at
no_slash_refused text at longest none = address_refused text at longest (λ a inside slash accepted. none inside slash)

pub no_address_refused : (text : List ℕ) (at : ℕ) (place : Place4) → IsLongestBeginning (Begins IsAddress4Text) text at
    → walked behind4 start4 (take at text) ≡ Some place → None ≡ address_at place place.number → Refused4 text at
no_address_refused text at place longest here none =
    address_refused text at longest (λ a inside slash accepted. no_address4 (take at text) place a here none accepted)

pub length_refused : (text digits : List ℕ) (at value j : ℕ) → IsLongestBeginning (Begins IsAddress4Text) text at
    → at < length text → get_or text at 0 ≡ 47 → IsAddress4Text (take at text) value → digits ≡ drop (suc at) text
    → ((len : ℕ) → len ≤ 32 → digits ≡ length_text len → ⊥)
    → IsLongestBeginning (Begins (IsLengthOf 32 value)) digits j → Refused4 text (at + 1 + j)
length_refused text digits at value j longest inside slash accepted is none far =
    let P : List ℕ → Type 0 = λ t. IsLongestBeginning (Begins (IsLengthOf 32 value)) t j in
    let no_length : (len : ℕ) → len ≤ 32 → drop (suc at) text ≡ length_text len → ⊥ = λ len short e. none len short (is ∙ e) in (
      (λ p h. no_prefix_in_length IsAddress4Text 32 texts text at longest no_length p (from_text text p h)),
      said4 text (at + 1 + j) (fault_in_length IsAddress4Text 32 texts text at value j longest inside slash accepted no_length
          (subst P is far)),
    )

pub bits_refused : (text digits : List ℕ) (at value len : ℕ) → IsLongestBeginning (Begins IsAddress4Text) text at
    → at < length text → get_or text at 0 ≡ 47 → IsAddress4Text (take at text) value → digits ≡ drop (suc at) text
    → (len ≤ 32) × (digits ≡ length_text len) → (IsPrefix (record { value = value; len = len }) → ⊥) → Refused4 text (length text)
bits_refused text digits at value len longest inside slash accepted is length none =
    let set : value % 2 ^ (128 - len) ≡ 0 → ⊥ =
    λ clear. none (omega (arith, length.0), address4_below (take at text) value accepted, clear) in
    let no_prefix : (p : PrefixValue) → PrefixTextOf IsAddress4Text 32 text p → ⊥ =
    no_prefix_of_bits IsAddress4Text 32 texts text at value len longest accepted (sym is ∙ length.1) length.0 set same_length4 in (
      (λ p h. no_prefix p (from_text text p h)),
      said4 text _ (fault_of_bits IsAddress4Text 32 text at value len inside slash accepted (sym is ∙ length.1) length.0 no_prefix),
    )

-- ---- a prefix

pub prefix4_made : (text digits : List ℕ) (at value len : ℕ) → at < length text → get_or text at 0 ≡ 47
    → IsAddress4Text (take at text) value → digits ≡ drop (suc at) text → (len ≤ 32) × (digits ≡ length_text len)
    → (p : PrefixValue) → p ≡ record { value = value; len = len } → IsPrefix (record { value = value; len = len })
    → IsPrefix4Text text p
prefix4_made text digits at value len inside slash accepted is length p is_p valid =
    let P : PrefixValue → Type 0 = λ q. IsPrefix4Text text q in
    subst P (sym is_p) (record {
      address_part = take at text;
      parts = text_round_slash text at inside slash ∙ ap (λ t. take at text ++ (47 ∷ t)) (sym is ∙ length.1);
      address = accepted;
      short = length.0;
      is_prefix = valid;
    })
