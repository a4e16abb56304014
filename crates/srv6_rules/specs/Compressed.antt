-- The numbers under compressed SIDs (RFC 9800 sections 4.1 and 4.2). A SID is a prefix. Its block is the front that it shares with the
-- other SIDs of the block, and its CSID is what stands after the block, up to the SID's end. Lengths and places count bits, and an
-- address has 128.
use Rattle.std.specs.Prelude.{ℕ, ◌+◌, ◌-◌, ◌*◌, ◌/◌, ◌%◌, ◌^◌, List, [], ◌∷◌}
use Rattle.v6_addr.specs.Address.{PrefixValue, field_of, with_field_of}

-- the CSID of a SID, of a block of so many bits (RFC 9800 section 3)
abbrev pub csid_of : ℕ → PrefixValue → ℕ
csid_of block_len sid = field_of sid.value block_len (sid.len - block_len)

-- ---- NEXT-CSID (RFC 9800 section 4.1)

-- the argument of a destination: its bits after the SID
unfoldable pub argument_of : ℕ → ℕ → ℕ
argument_of destination sid_len = destination % 2 ^ (128 - sid_len)

-- the destination whose argument is moved up to directly after the block, and which is 0 after the argument
unfoldable pub shift_of : ℕ → ℕ → ℕ → ℕ
shift_of destination block_len sid_len =
    destination / 2 ^ (128 - block_len) * 2 ^ (128 - block_len) + argument_of destination sid_len * 2 ^ (sid_len - block_len)

-- the CSIDs of SIDs one after the other, from the highest of so many bits on
abbrev pub packed : ℕ → ℕ → List PrefixValue → ℕ
packed block_len room [] = 0
packed block_len room (s ∷ ss) =
    csid_of block_len s * 2 ^ (room - (s.len - block_len)) + packed block_len (room - (s.len - block_len)) ss

-- the container of SIDs of one block: the first SID, and after it the CSIDs of the others
abbrev pub container_of : ℕ → List PrefixValue → ℕ
container_of block_len [] = 0
container_of block_len (s ∷ ss) = s.value + packed block_len (128 - s.len) ss

-- ---- REPLACE-CSID (RFC 9800 section 4.2)

-- how many CSIDs an entry of the segment list has room for
abbrev pub csid_count : ℕ → ℕ
csid_count csid_len = 128 / csid_len

-- the index of a destination: its lowest bits, as many as an index takes
unfoldable pub index_of : ℕ → ℕ → ℕ
index_of csid_len destination = destination % csid_count csid_len

-- the CSID at an index of an entry, counted from 0 at the entry's first bits
unfoldable pub csid_at : ℕ → ℕ → ℕ → ℕ
csid_at csid_len entry index = field_of entry (index * csid_len) csid_len

-- the destination with an index in its lowest bits
unfoldable pub with_index : ℕ → ℕ → ℕ → ℕ
with_index csid_len destination index = destination / csid_count csid_len * csid_count csid_len + index

-- the destination with another CSID after its block and another index, and its other bits as they were
unfoldable pub replace_of : ℕ → ℕ → ℕ → ℕ → ℕ → ℕ
replace_of destination block_len csid_len csid index = with_index csid_len (with_field_of destination block_len csid_len csid) index

-- CSIDs at an index of an entry and at those below it, one each, and 0 at those that are left
abbrev pub downward : ℕ → ℕ → List ℕ → ℕ
downward csid_len index [] = 0
downward csid_len index (c ∷ cs) = c * 2 ^ (128 - (index + 1) * csid_len) + downward csid_len (index - 1) cs

-- the entry that holds CSIDs: the first stands at the greatest index
abbrev pub packed_entry : ℕ → List ℕ → ℕ
packed_entry csid_len csids = downward csid_len (csid_count csid_len - 1) csids
