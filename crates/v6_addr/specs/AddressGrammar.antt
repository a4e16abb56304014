-- Need not be believed: helps proofs and other laws.
-- The grammar of the texts of addresses and prefixes, as relations in the words of RFC 4291 sections 2.2 and 2.3, without
-- a dotted IPv4 tail, leading zeros of a length or bits set after it, and the rule of RFC 5952 section 4.2 on
-- the run that `::` stands for. 58 is the colon, 47 the slash
use Rattle.std.specs.Prelude.{◌≡◌, ℕ, ◌+◌, ◌-◌, ◌<◌, ◌≤◌, ◌⊎◌, List, ◌∷◌, ◌++◌, length, replicate, slice_index}
use Rattle.std.specs.List.{join_with_byte, AllZip}
use Rattle.std.specs.Str.Parse.{digits_value, AllDigits}
use Rattle.v6_addr.specs.Address.{PrefixValue}
use Rattle.v6_addr.specs.AddressTerms.{IsPrefix}
use Rattle.v6_addr.specs.Text.{Run, number_of_groups, length_text}

-- one to four hexadecimal digits, in either case, with their number
abbrev pub IsGroupText : List ℕ → ℕ → Type 0
IsGroupText text group = (1 ≤ length text) × (length text ≤ 4) × AllDigits 16 text × (group ≡ digits_value 16 text)

-- groups with a colon between each two; no group is no text
pub record IsGroupsText (text groups : List ℕ) : Type 0 where
  pub texts : List (List ℕ)
  pub joined : text ≡ join_with_byte 58 texts
  pub each : AllZip IsGroupText texts groups

-- all eight groups, written out
pub record IsFullText (text : List ℕ) (address : ℕ) : Type 0 where
  pub groups : List ℕ
  pub written : IsGroupsText text groups
  pub eight : length groups ≡ 8
  pub value : address ≡ number_of_groups groups

-- at most seven groups, left and right of a `::`, which stands for one or more groups of zeros
pub record IsShortenedText (text : List ℕ) (address : ℕ) : Type 0 where
  pub left_text : List ℕ
  pub right_text : List ℕ
  pub left : List ℕ
  pub right : List ℕ
  pub parts : text ≡ left_text ++ (58 ∷ 58 ∷ right_text)
  pub left_written : IsGroupsText left_text left
  pub right_written : IsGroupsText right_text right
  pub some_zeros : length left + length right ≤ 7
  pub value : address ≡ number_of_groups (left ++ replicate (8 - (length left + length right)) 0 ++ right)

-- a text writes an address
abbrev pub IsAddressText : List ℕ → ℕ → Type 0
IsAddressText text address = IsFullText text address ⊎ IsShortenedText text address

-- a text writes a prefix: an address, a slash and the length in decimal digits without leading zeros
pub record IsPrefixText (text : List ℕ) (p : PrefixValue) : Type 0 where
  pub address_part : List ℕ
  pub parts : text ≡ address_part ++ (47 ∷ length_text p.len)
  pub address : IsAddressText address_part p.value
  pub is_prefix : IsPrefix p

-- these groups are 0: `count` of them from `start` on
abbrev pub IsZeroRun : List ℕ → ℕ → ℕ → Type 0
IsZeroRun groups start count = (start + count ≤ length groups) × ((k : ℕ) → k < count → slice_index groups (start + k) ≡ 0)

-- a run of groups that are 0: none is longer, and none as long begins earlier
pub record IsLongestRun (groups : List ℕ) (run : Run) : Type 0 where
  pub zeros : IsZeroRun groups run.start run.count
  pub longest : (start count : ℕ) → IsZeroRun groups start count → count ≤ run.count
  pub first : (start : ℕ) → IsZeroRun groups start run.count → run.start ≤ start
