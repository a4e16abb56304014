-- The texts of addresses and prefixes: what is read (RFC 4291 sections 2.2 and 2.3, without a dotted IPv4 tail, leading zeros
-- of a length or bits set after it, own rules) and what is written (RFC 5952 section 4).
-- A text is a list of bytes: 58 is the colon, 47 the slash
use Rattle.std.specs.Prelude.{ℕ, suc, ◌+◌, ◌-◌, ◌*◌, ◌/◌, ◌%◌, ◌^◌, ◌==◌, ◌&&◌, not, nat_lt, nat_le, if◌then◌else◌, List, [], ◌∷◌, ◌++◌, length, take, drop, replicate, map, fold, Option, Some, None, option_map, option_and_then, slice_index}
use Rattle.std.specs.Char.{is_digit, digit_char}
use Rattle.std.specs.Str.Parse.{digits_value}
use Rattle.std.specs.List.{join_with_byte, slice_split, list_all, before_first, after_first}
use Rattle.v6_addr.specs.Address.{PrefixValue, field_of}

-- ---- what is read

-- the number that digits write in a radix, the letters among them in either case; none where another byte stands among them
unfoldable pub number_of_text : ℕ → List ℕ → Option ℕ
number_of_text radix text = if list_all (λ c. is_digit c radix) text then Some (digits_value radix text) else None

-- a group: one to four hexadecimal digits
unfoldable pub group_of_text : List ℕ → Option ℕ
group_of_text text =
    if nat_le 1 (length text) && nat_le (length text) 4 then number_of_text 16 text else None

-- the groups that the texts write, where each text is a group
unfoldable pub groups_of_texts : List (List ℕ) → Option (List ℕ)
groups_of_texts [] = Some []
groups_of_texts (text ∷ texts) =
    option_and_then (λ g. option_map (λ gs. g ∷ gs) (groups_of_texts texts)) (group_of_text text)

-- groups parted by colons; no group where nothing stands
unfoldable pub groups_of_text : List ℕ → Option (List ℕ)
groups_of_text [] = Some []
groups_of_text (c ∷ cs) = groups_of_texts (slice_split (λ b. b == 58) (c ∷ cs))

-- the number that groups of 16 bits make, the highest first
unfoldable pub number_of_groups : List ℕ → ℕ
number_of_groups groups = fold (λ n g. n * 2 ^ 16 + g) 0 groups

-- eight groups written out
unfoldable pub full_address : List ℕ → Option ℕ
full_address groups = if length groups == 8 then Some (number_of_groups groups) else None

-- the groups left and right of `::`, which stands for one or more groups of zeros
unfoldable pub shortened_address : List ℕ → List ℕ → Option ℕ
shortened_address left right =
    if nat_lt (length left + length right) 8
    then Some (number_of_groups (left ++ replicate (8 - (length left + length right)) 0 ++ right)) else None

-- how many bytes stand before the first `::`
unfoldable pub gap_of : List ℕ → Option ℕ
gap_of [] = None
gap_of (c ∷ cs) = if (c == 58) && (slice_index cs 0 == 58) then Some 0 else option_map suc (gap_of cs)

-- the address of a text whose first `::` stands at a place, or nowhere
unfoldable pub address_of_parts : List ℕ → Option ℕ → Option ℕ
address_of_parts text None = option_and_then full_address (groups_of_text text)
address_of_parts text (Some gap) =
    option_and_then (λ left. option_and_then (shortened_address left) (groups_of_text (drop (gap + 2) text)))
    (groups_of_text (take gap text))

-- the address that a text writes; none where the text is outside the grammar
unfoldable pub address_of_text : List ℕ → Option ℕ
address_of_text text = address_of_parts text (gap_of text)

-- a prefix's length: one to three decimal digits without leading zeros, at most 128
unfoldable pub length_of_text : List ℕ → Option ℕ
length_of_text text =
    if nat_le 1 (length text) && nat_le (length text) 3 && not (nat_lt 1 (length text) && (slice_index text 0 == 48))
    then option_and_then (λ n. if nat_le n 128 then Some n else None) (number_of_text 10 text) else None

-- an address and a length, where no bit past the length is set
unfoldable pub prefix_of_parts : Option ℕ → Option ℕ → Option PrefixValue
prefix_of_parts None len = None
prefix_of_parts (Some value) None = None
prefix_of_parts (Some value) (Some len) =
    if value % 2 ^ (128 - len) == 0 then Some (record { value = value; len = len }) else None

-- the prefix that a text writes, an address, a slash and a length; none where the text is outside the grammar
unfoldable pub prefix_of_text : List ℕ → Option PrefixValue
prefix_of_text text =
    prefix_of_parts (address_of_text (before_first (λ b. b == 47) text)) (length_of_text (after_first (λ b. b == 47) text))

-- ---- what is written

-- an address's eight groups of 16 bits, the highest first
unfoldable pub groups_of : ℕ → List ℕ
groups_of a =
    field_of a 0 16 ∷ field_of a 16 16 ∷ field_of a 32 16 ∷ field_of a 48 16
    ∷ field_of a 64 16 ∷ field_of a 80 16 ∷ field_of a 96 16 ∷ field_of a 112 16 ∷ []

-- a group in hexadecimal digits, in lower case and without leading zeros (RFC 5952 sections 4.1 and 4.3)
unfoldable pub group_text : ℕ → List ℕ
group_text g =
    if nat_lt g 16 then digit_char g ∷ []
    else (if nat_lt g 256 then digit_char (g / 16) ∷ digit_char (g % 16) ∷ []
    else (if nat_lt g 4096 then digit_char (g / 256) ∷ digit_char (g / 16 % 16) ∷ digit_char (g % 16) ∷ []
    else digit_char (g / 4096) ∷ digit_char (g / 256 % 16) ∷ digit_char (g / 16 % 16) ∷ digit_char (g % 16) ∷ []))

-- the texts of groups, with a colon between each two
unfoldable pub groups_text : List ℕ → List ℕ
groups_text groups = join_with_byte 58 (map group_text groups)

-- some groups in a row: the place of the first, and how many they are
pub record Run : Type 0 where
  pub start : ℕ
  pub count : ℕ

-- how many of the groups are 0 before the first that isn't
unfoldable pub leading_zeros : List ℕ → ℕ
leading_zeros [] = 0
leading_zeros (g ∷ gs) = if g == 0 then suc (leading_zeros gs) else 0

-- the longer of a run from the first group on and a run of the groups after it; the first among equals
unfoldable pub longer_run : ℕ → Run → Run
longer_run here behind =
    if nat_le behind.count here then record { start = 0; count = here }
    else record { start = suc behind.start; count = behind.count }

-- the longest run of groups that are 0, the first among equals (RFC 5952 section 4.2.3)
unfoldable pub longest_run : List ℕ → Run
longest_run [] = record { start = 0; count = 0 }
longest_run (g ∷ gs) = longer_run (leading_zeros (g ∷ gs)) (longest_run gs)

-- groups with `::` for a run of two or more that are 0, and written out where the run is shorter (RFC 5952 section 4.2.2)
unfoldable pub text_with_run : List ℕ → Run → List ℕ
text_with_run groups run =
    if nat_le 2 run.count
    then groups_text (take run.start groups) ++ (58 ∷ 58 ∷ groups_text (drop (run.start + run.count) groups))
    else groups_text groups

-- the text of an address (RFC 5952 section 4)
unfoldable pub address_text : ℕ → List ℕ
address_text a = text_with_run (groups_of a) (longest_run (groups_of a))

-- the text of a number of at most three digits, in decimal digits without leading zeros
unfoldable pub length_text : ℕ → List ℕ
length_text n =
    if nat_lt n 10 then digit_char n ∷ []
    else (if nat_lt n 100 then digit_char (n / 10) ∷ digit_char (n % 10) ∷ []
    else digit_char (n / 100) ∷ digit_char (n / 10 % 10) ∷ digit_char (n % 10) ∷ [])

-- the text of a prefix: its address, a slash and its length (RFC 4291 section 2.3)
unfoldable pub prefix_text : PrefixValue → List ℕ
prefix_text p = address_text p.value ++ (47 ∷ length_text p.len)
