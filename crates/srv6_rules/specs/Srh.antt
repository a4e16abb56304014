-- The segment routing header as a value, and its one spelling (RFC 8754 section 2).
use Rattle.std.specs.Prelude.{ℕ, ◌+◌, ◌*◌, ◌/◌, List, ◌∷◌, ◌++◌, take, drop, slice_index}
use Rattle.srv6_rules.specs.declared.numbers.TheConstants.{SEGMENT_ROUTING, EXTENSION_UNIT, EXTENSION_LEN_AT, ROUTING_TYPE_AT, SEGMENTS_LEFT_AT, LAST_ENTRY_AT, FLAGS_AT, TAG_AT, SEGMENT_LIST_AT, SEGMENT_LEN}
use Rattle.srv6_rules.specs.Packet.{two_bytes, two_number, address_number}

-- extension_len counts the 8-byte units after the first 8 bytes; they are the body
pub record Srh : Type 0 where
  pub next_header : ℕ
  pub extension_len : ℕ
  pub segments_left : ℕ
  pub last_entry : ℕ
  pub flags : ℕ
  pub tag : ℕ
  pub body : List ℕ

-- the routing type of a segment routing header
abbrev pub segment_routing : ℕ
segment_routing = SEGMENT_ROUTING

-- the places in the header, in bytes from its first, of the routing type and of Segments Left (RFC 8754 section 2)
abbrev pub routing_type_at : ℕ
routing_type_at = ROUTING_TYPE_AT

abbrev pub segments_left_at : ℕ
segments_left_at = SEGMENTS_LEFT_AT

-- the one spelling of a header
abbrev pub srh_spelling : Srh → List ℕ
srh_spelling s = s.next_header ∷ s.extension_len ∷ segment_routing ∷ s.segments_left ∷ s.last_entry ∷ s.flags ∷ (two_bytes s.tag ++ s.body)

-- the header whose bytes these are: of a routing header the bytes from its start to its end
abbrev pub srh_of : List ℕ → Srh
srh_of bytes =
    record {
      next_header = slice_index bytes 0;
      extension_len = slice_index bytes EXTENSION_LEN_AT;
      segments_left = slice_index bytes segments_left_at;
      last_entry = slice_index bytes LAST_ENTRY_AT;
      flags = slice_index bytes FLAGS_AT;
      tag = two_number (drop TAG_AT bytes);
      body = take (EXTENSION_UNIT * slice_index bytes EXTENSION_LEN_AT) (drop SEGMENT_LIST_AT bytes);
    }

-- the number of whole entries of 16 bytes
abbrev pub entries_of : Srh → ℕ
entries_of s = s.extension_len / 2

-- the segment list's entry at a place counted from 0
abbrev pub entry_of : Srh → ℕ → ℕ
entry_of s i = address_number (drop (SEGMENT_LEN * i) s.body)

-- the bytes between the entry at Last Entry and the header's end; none where that entry isn't there
abbrev pub tlv_bytes : Srh → List ℕ
tlv_bytes s = drop (SEGMENT_LEN * (s.last_entry + 1)) s.body
