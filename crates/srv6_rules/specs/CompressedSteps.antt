-- The steps of compressed SIDs over packets (RFC 9800 sections 4.1 and 4.2): NEXT-CSID shifts the destination, and REPLACE-CSID takes the
-- next CSID, or the next entry, of the segment list.
use Rattle.std.specs.Prelude.{ℕ, ◌+◌, ◌-◌, Bool, true, false, ◌==◌, ◌&&◌, ◌||◌, not, nat_lt, nat_le, if◌then◌else◌, slice_set, Option, Some, None}
use Rattle.srv6_rules.specs.declared.sid.Csid.{Csid}
use Rattle.srv6_rules.specs.declared.sid.Csid.TheVariants as kinds
use Rattle.srv6_rules.specs.declared.reason.Reason.TheVariants as reasons
use Rattle.srv6_rules.specs.declared.sid.SidEntry.{SidEntry}
use Rattle.srv6_rules.specs.declared.compression.Compression.{Compression}
use Rattle.srv6_rules.specs.Packet.{Packet, header_len}
use Rattle.srv6_rules.specs.Srh.{Srh, entries_of, entry_of, segments_left_at}
use Rattle.srv6_rules.specs.Areas.{Fault, tlvs_fault}
use Rattle.srv6_rules.specs.Compressed.{argument_of, shift_of, csid_count, index_of, csid_at, replace_of}

-- the length of the CSIDs of a SID's block
abbrev pub csid_len_of : Compression → ℕ
csid_len_of c = c.prefix_len - c.block_len

-- how a SID is compressed
abbrev pub compression_of : SidEntry → Compression
compression_of s = record { kind = s.csid; prefix_len = s.prefix.len; block_len = s.block_len }

-- the hop limit can't be lowered (RFC 8754 section 4.3.1.1)
abbrev pub hop_limit_fault : Packet → Option Fault
hop_limit_fault p = if nat_le p.hop_limit 1 then Some (record { reason = reasons.HopLimit; at = 0 }) else None

-- ---- NEXT-CSID (RFC 9800 section 4.1)

abbrev pub is_next : Csid → Bool
is_next kinds.Plain = false
is_next kinds.Next = true
is_next kinds.Replace = false

abbrev pub is_replace : Csid → Bool
is_replace kinds.Plain = false
is_replace kinds.Next = false
is_replace kinds.Replace = true

-- a SID shifts a destination: it has NEXT-CSID, and the argument isn't 0
abbrev pub shifts : Compression → ℕ → Bool
shifts c destination = is_next c.kind && not (argument_of destination c.prefix_len == 0)

-- the packet whose argument is moved up to its block. Its segment routing header, if it has one, stays
abbrev pub shifted : Compression → Packet → Packet
shifted c p = record p { hop_limit = p.hop_limit - 1; destination = shift_of p.destination c.block_len c.prefix_len }

-- ---- REPLACE-CSID (RFC 9800 section 4.2)

-- the index of a destination, and the CSID at an index of the segment list's entry at a place
abbrev pub index_in : Compression → ℕ → ℕ
index_in c destination = index_of (csid_len_of c) destination

abbrev pub listed_csid : Compression → Srh → ℕ → ℕ → ℕ
listed_csid c srh i index = csid_at (csid_len_of c) (entry_of srh i) index

-- no segment is left: the entry at 0 is the one that is used, and it has no CSID after the one that is active
abbrev pub is_ended : Compression → Srh → ℕ → ℕ → Bool
is_ended c srh left destination =
    (left == 0) && ((index_in c destination == 0) || (listed_csid c srh 0 (index_in c destination - 1) == 0))

-- that test has to read an entry where there is none
abbrev pub lacks_entry : Compression → Srh → ℕ → Bool
lacks_entry c srh destination = (srh.segments_left == 0) && (not (index_in c destination == 0) && (entries_of srh == 0))

-- Last Entry passes the entries that are there, or Segments Left passes what is in use: Last Entry where the entry at Segments Left is
-- read, and one more where the next one is
abbrev pub has_bad_list : Compression → Srh → ℕ → Bool
has_bad_list c srh destination =
    nat_lt (entries_of srh) (srh.last_entry + 1)
    || nat_lt (if index_in c destination == 0 then srh.last_entry + 1 else srh.last_entry) srh.segments_left

-- Segments Left and the destination after a step, and whether no segment is left then
pub record Move : Type 0 where
  pub segments_left : ℕ
  pub destination : ℕ
  pub ended : Bool

-- to the CSID at an index of an entry
abbrev pub to_csid : Compression → Srh → ℕ → ℕ → ℕ → Move
to_csid c srh destination left index =
    let next = replace_of destination c.block_len (csid_len_of c) (listed_csid c srh left index) index in
    record { segments_left = left; destination = next; ended = is_ended c srh left next }

-- to the whole of the next entry
abbrev pub to_entry : Srh → Move
to_entry srh =
    let left = srh.segments_left - 1 in record { segments_left = left; destination = entry_of srh left; ended = left == 0 }

-- at index 0 the next entry's CSIDs begin, at the greatest index; else the CSID at the index below is next, unless it is 0: then the next
-- entry is a whole segment
abbrev pub move_of : Compression → Srh → ℕ → Move
move_of c srh destination =
    let index = index_in c destination in
    if index == 0 then to_csid c srh destination (srh.segments_left - 1) (csid_count (csid_len_of c) - 1)
    else if listed_csid c srh srh.segments_left (index - 1) == 0 then to_entry srh
    else to_csid c srh destination srh.segments_left (index - 1)

-- the packet after a move of its segment routing header at a place
abbrev pub moved : Packet → ℕ → Move → Packet
moved p at m =
    record p {
      hop_limit = p.hop_limit - 1;
      destination = m.destination;
      payload = slice_set p.payload (at + segments_left_at - header_len) m.segments_left;
    }

-- what comes of a segment routing header: the packet moves on, and whether no segment is left then; no segment was left; or the packet is
-- dropped
pub data ReplaceStep : Type 0 where
  Moved : Packet → Bool → ReplaceStep
  AtEnd : ReplaceStep
  Dropped : Fault → ReplaceStep

abbrev pub unless_dropped : Option Fault → ReplaceStep → ReplaceStep
unless_dropped (Some fault) step = Dropped fault
unless_dropped None step = step

-- the fault of Segments Left in the header at a place
abbrev pub segments_fault : ℕ → Fault
segments_fault at = record { reason = reasons.BadSegments; at = at + segments_left_at }

-- the step over the segment routing header at a place: the hop limit is judged, then the segments, then the type-length-value area
abbrev pub replace_step : Compression → Packet → ℕ → Srh → ReplaceStep
replace_step c p at srh =
    if lacks_entry c srh p.destination then Dropped (segments_fault at)
    else if is_ended c srh srh.segments_left p.destination then AtEnd
    else unless_dropped (hop_limit_fault p)
    (if has_bad_list c srh p.destination then Dropped (segments_fault at)
    else unless_dropped (tlvs_fault at srh) (let m = move_of c srh p.destination in Moved (moved p at m) m.ended))

-- the header is at its end, which can be judged: else a SID that decapsulates refuses it (RFC 8986 sections 4.4 to 4.8)
abbrev pub is_at_end : Compression → Srh → ℕ → Bool
is_at_end c srh destination = not (lacks_entry c srh destination) && is_ended c srh srh.segments_left destination
