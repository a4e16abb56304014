-- Need not be believed: helps proofs and other laws.
-- Two lists by hand, with their values and the destinations on the way written out (RFC 9800 section 4).
use Rattle.std.specs.Prelude.{ℕ, List, [], ◌∷◌, Some}
use Rattle.srv6_rules.specs.declared.sid.Csid.{Csid}
use Rattle.srv6_rules.specs.declared.sid.Csid.TheVariants.{Plain, Next, Replace}
use Rattle.sid_list_spec.specs.SegmentLists.{SidBlock, ListSid, Container, Full, Packed}

-- the block fcbb:bb00::/32 of NEXT-CSID, with CSIDs of 16 bits
abbrev pub next_block : SidBlock
next_block = record { prefix = record { value = 0xfcbb_bb00_0000_0000_0000_0000_0000_0000; len = 32 }; kind = Next; csid_len = 16 }

abbrev pub next_sid : ℕ → Csid → ListSid
next_sid value csid = record { prefix = record { value = value; len = 48 }; block = Some next_block; csid = csid }

-- fcbb:bb00:2::/48, fcbb:bb00:e001::/48 and fcbb:bb00:4::/48 with NEXT-CSID, and fcbb:bb00:f001::/48, which isn't compressed, in one
-- container
abbrev pub next_list : List Container
next_list =
    Full (next_sid 0xfcbb_bb00_0002_0000_0000_0000_0000_0000 Next)
    (next_sid 0xfcbb_bb00_e001_0000_0000_0000_0000_0000 Next ∷
    next_sid 0xfcbb_bb00_0004_0000_0000_0000_0000_0000 Next ∷
    next_sid 0xfcbb_bb00_f001_0000_0000_0000_0000_0000 Plain ∷ []) ∷ []

-- fcbb:bb00:2:e001:4:f001::
abbrev pub next_values : List ℕ
next_values = 0xfcbb_bb00_0002_e001_0004_f001_0000_0000 ∷ []

-- each shift moves the SIDs after up to the block
abbrev pub next_destinations : List ℕ
next_destinations =
    0xfcbb_bb00_0002_e001_0004_f001_0000_0000 ∷
    0xfcbb_bb00_e001_0004_f001_0000_0000_0000 ∷
    0xfcbb_bb00_0004_f001_0000_0000_0000_0000 ∷
    0xfcbb_bb00_f001_0000_0000_0000_0000_0000 ∷ []

-- the block 2001:db8:b::/48 of REPLACE-CSID, with CSIDs of 32 bits
abbrev pub replace_block : SidBlock
replace_block = record { prefix = record { value = 0x2001_0db8_000b_0000_0000_0000_0000_0000; len = 48 }; kind = Replace; csid_len = 32 }

abbrev pub replace_sid : ℕ → ListSid
replace_sid value = record { prefix = record { value = value; len = 80 }; block = Some replace_block; csid = Replace }

-- 2001:db8:b:1:1::/80 whole, and after it the CSIDs of 2001:db8:b:2:1::/80, 2001:db8:b:3:1::/80 and 2001:db8:b:4:f1::/80
abbrev pub replace_list : List Container
replace_list =
    Full (replace_sid 0x2001_0db8_000b_0001_0001_0000_0000_0000) [] ∷
    Packed (replace_sid 0x2001_0db8_000b_0002_0001_0000_0000_0000)
    (replace_sid 0x2001_0db8_000b_0003_0001_0000_0000_0000 ∷
    replace_sid 0x2001_0db8_000b_0004_00f1_0000_0000_0000 ∷ []) ∷ []

-- 2001:db8:b:1:1:: and ::4:f1:3:1:2:1
abbrev pub replace_values : List ℕ
replace_values = 0x2001_0db8_000b_0001_0001_0000_0000_0000 ∷ 0x0000_0000_0004_00f1_0003_0001_0002_0001 ∷ []

-- the index is 3 at the first CSID of the container, and one lower at each further one
abbrev pub replace_destinations : List ℕ
replace_destinations =
    0x2001_0db8_000b_0001_0001_0000_0000_0000 ∷
    0x2001_0db8_000b_0002_0001_0000_0000_0003 ∷
    0x2001_0db8_000b_0003_0001_0000_0000_0002 ∷
    0x2001_0db8_000b_0004_00f1_0000_0000_0001 ∷ []
