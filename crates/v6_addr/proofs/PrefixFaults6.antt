-- the place of the fault of a text that is no IPv6 prefix
use Rattle.std.proofs.Common.{◌≡◌, ℕ, suc, ◌+◌, ◌<◌, List, length, take, drop, get_or, Some, None, sym, ◌∙◌, ap, arith, subst}
use Rattle.std.proofs.lemmas.Option.{same_Some, none-some}
use Rattle.v6_addr.specs.Address.{PrefixValue}
use Rattle.v6_addr.specs.Text.{address_of_text, length_of_text, prefix_of_text}
use Rattle.v6_addr.specs.AddressGrammar.{IsAddressText, IsPrefixText}
use Rattle.v6_addr.specs.AddressFaults.{Begins, IsLongestBeginning, IsPrefixFault}
use Rattle.v6_addr.specs.LengthsTerms.{IsLengthOf}
use Rattle.v6_addr.proofs.GrammarLaws.{address_text_is}
use Rattle.v6_addr.proofs.PrefixGrammar.{address_below, address_no_slash, length_is, length_reads, prefix_text_is}
use Rattle.v6_addr.proofs.PrefixFaults.{Texts, PrefixTextOf, fault_in_address, fault_of_bits, fault_in_length, fault_said}

texts : Texts IsAddressText 128
texts = record {
  no_slash = address_no_slash;
  one = λ text a b first second.
      same_Some a b (sym ((address_text_is text a).1 first) ∙ (address_text_is text b).1 second);
  fits = λ text a accepted. omega arith;
}

to_text : (text : List ℕ) (p : PrefixValue) → PrefixTextOf IsAddressText 128 text p → IsPrefixText text p
to_text text p h = record {
  address_part = h.address_part;
  parts = h.parts;
  address = h.address;
  is_prefix = (h.short, address_below h.address_part p.value h.address, h.clear);
}

from_text : (text : List ℕ) (p : PrefixValue) → IsPrefixText text p → PrefixTextOf IsAddressText 128 text p
from_text text p h = record {
  address_part = h.address_part;
  parts = h.parts;
  address = h.address;
  short = h.is_prefix.0;
  clear = h.is_prefix.2;
}

-- no slash stands after the longest beginning of an address, or no address is before it
pub no_slash_fault : (text : List ℕ) (at : ℕ) → IsLongestBeginning (Begins IsAddressText) text at
    → (at < length text → get_or text at 0 ≡ 47 → ⊥) → IsPrefixFault IsAddressText 128 IsPrefixText text at
no_slash_fault text at longest none =
    fault_said IsAddressText 128 (PrefixTextOf IsAddressText 128) IsPrefixText text at to_text from_text
    (fault_in_address IsAddressText 128 texts text at longest (λ a inside slash accepted. none inside slash))

pub no_address_fault : (text front : List ℕ) (at : ℕ) → IsLongestBeginning (Begins IsAddressText) text at
    → front ≡ take at text → None ≡ address_of_text front → IsPrefixFault IsAddressText 128 IsPrefixText text at
no_address_fault text front at longest is_front none =
    fault_said IsAddressText 128 (PrefixTextOf IsAddressText 128) IsPrefixText text at to_text from_text
    (fault_in_address IsAddressText 128 texts text at longest (λ a inside slash accepted.
    none-some a (none ∙ ap address_of_text is_front ∙ (address_text_is (take at text) a).1 accepted)))

no_prefix_of : (text : List ℕ) → prefix_of_text text ≡ None → (p : PrefixValue) → PrefixTextOf IsAddressText 128 text p → ⊥
no_prefix_of text none p h = none-some p (sym none ∙ (prefix_text_is text p).1 (to_text text p h))

pub set_bit_fault : (text front digits : List ℕ) (at value len : ℕ) → prefix_of_text text ≡ None
    → at < length text → get_or text at 0 ≡ 47 → front ≡ take at text → Some value ≡ address_of_text front
    → digits ≡ drop (suc at) text → Some len ≡ length_of_text digits
    → IsPrefixFault IsAddressText 128 IsPrefixText text (length text)
set_bit_fault text front digits at value len none inside slash is_front is_value is_digits is_len =
    let length = length_is digits len (sym is_len) in
    fault_said IsAddressText 128 (PrefixTextOf IsAddressText 128) IsPrefixText text _ to_text from_text
    (fault_of_bits IsAddressText 128 text at value len inside slash
    ((address_text_is (take at text) value).0 (ap address_of_text (sym is_front) ∙ sym is_value)) (sym is_digits ∙ length.1) length.0
    (no_prefix_of text none))

pub length_fault : (text front digits : List ℕ) (at value j : ℕ) → IsLongestBeginning (Begins IsAddressText) text at
    → at < length text → get_or text at 0 ≡ 47 → front ≡ take at text → Some value ≡ address_of_text front
    → digits ≡ drop (suc at) text → None ≡ length_of_text digits
    → IsLongestBeginning (Begins (IsLengthOf 128 value)) digits j
    → IsPrefixFault IsAddressText 128 IsPrefixText text (at + 1 + j)
length_fault text front digits at value j longest inside slash is_front is_value is_digits no_len far =
    let P : List ℕ → Type 0 = λ t. IsLongestBeginning (Begins (IsLengthOf 128 value)) t j in
    fault_said IsAddressText 128 (PrefixTextOf IsAddressText 128) IsPrefixText text _ to_text from_text
    (fault_in_length IsAddressText 128 texts text at value j longest inside slash
    ((address_text_is (take at text) value).0 (ap address_of_text (sym is_front) ∙ sym is_value))
    (λ len short same. none-some len (no_len ∙ ap length_of_text (is_digits ∙ same) ∙ length_reads len short))
    (subst P is_digits far))
