-- What a node does with a packet that came to one of its SIDs or to its own address: RFC 8986 sections 4.1 to 4.8, 4.13 and 4.14
-- with the flavours of section 4.16, RFC 9800 sections 4.1 and 4.2, and the processing of RFC 8754 section 4.3.1.1, and RFC 8200
-- sections 4 and 4.4 with RFC 8754 section 4.3.2 at an address.
use Rattle.std.specs.Prelude.{ℕ, ◌+◌, ◌-◌, Bool, ◌==◌, ◌&&◌, ◌||◌, not, nat_lt, nat_le, if◌then◌else◌, List, [], ◌∷◌, length, take, slice_set, Option, Some, None}
use Rattle.std.specs.List.{list_any}
use Rattle.srv6_rules.specs.declared.family.Family.{Family}
use Rattle.srv6_rules.specs.declared.reason.Reason.{Reason}
use Rattle.srv6_rules.specs.declared.reason.Reason.TheVariants as reasons
use Rattle.srv6_rules.specs.declared.sid.SidEntry.{SidEntry}
use Rattle.srv6_rules.specs.Behaviours.{goes_on, exposes, family_inside}
use Rattle.srv6_rules.specs.Packet.{Packet, header_len}
use Rattle.srv6_rules.specs.Srh.{Srh, srh_of, entries_of, entry_of, segments_left_at, routing_type_at}
use Rattle.srv6_rules.specs.Areas.{Fault, options_fault, tlvs_fault}
use Rattle.srv6_rules.specs.CompressedSteps.{ReplaceStep, Moved, AtEnd, Dropped, compression_of, is_replace, shifts, shifted, replace_step, is_at_end}
use Rattle.srv6_rules.specs.Chain.{ChainPlace, Header, ChainEnd, Upper, Cut, hop_by_hop, fragment, destination_options, is_first, segments_left, is_segment_routing, from_place, chain_of, without}

-- what came of a packet at a SID or an address: it goes on with another destination; the packet inside it, of a family
-- and with the bytes from there on, is exposed; it is handed to the upper layer here; or it is dropped, for a fault at a
-- place counted from the packet's first byte (0 where the reason has no place)
pub data Endpoint : Type 0 where
  Onward : Packet → Endpoint
  Exposed : Family → List ℕ → Endpoint
  Delivered : Packet → Endpoint
  Refused : Reason → ℕ → Endpoint

-- the headers of a chain one by one: each is given what came of those after it
abbrev pub over_headers : (Header → Endpoint → Endpoint) → List Header → Endpoint → Endpoint
over_headers treat [] end = end
over_headers treat (h ∷ hs) end = treat h (over_headers treat hs end)

-- the upper layers that a node takes at its SIDs (RFC 8986 section 4.1.1)
abbrev pub is_allowed : List ℕ → ℕ → Bool
is_allowed allow kind = list_any (λ k. k == kind) allow

abbrev pub upper_layer : List ℕ → Packet → ChainPlace → Endpoint
upper_layer allow p place = if is_allowed allow place.kind then Delivered p else Refused reasons.UpperLayer place.at

-- Last Entry passes the entries that are there, or Segments Left passes Last Entry by more than 1 (RFC 8754 section 4.3.1.1, RFC
-- 8986 section 4.1)
abbrev pub has_bad_segments : Srh → Bool
has_bad_segments s = nat_lt (entries_of s) (s.last_entry + 1) || nat_lt (s.last_entry + 1) s.segments_left

-- the packet whose segment routing header at a place makes its next segment the destination
abbrev pub advanced : Packet → ℕ → Srh → Packet
advanced p at s =
    record p {
      hop_limit = p.hop_limit - 1;
      destination = entry_of s (s.segments_left - 1);
      payload = slice_set p.payload (at + segments_left_at - header_len) (s.segments_left - 1);
    }

-- a fault, or else what comes after
abbrev pub unless_fault : Option Fault → Endpoint → Endpoint
unless_fault (Some fault) behind = Refused fault.reason fault.at
unless_fault None behind = behind

-- the step over a segment routing header with segments left: the hop limit is judged, then the segments (RFC 8986 section
-- 4.1), then the type-length-value area (that it comes last is an own rule)
abbrev pub next_segment : Packet → ℕ → Srh → Endpoint
next_segment p at s =
    if nat_le p.hop_limit 1 then Refused reasons.HopLimit 0
    else if has_bad_segments s then Refused reasons.BadSegments (at + segments_left_at)
    else unless_fault (tlvs_fault at s) (Onward (advanced p at s))

-- ---- headers that are taken out

-- a header with the bytes that stand at its place in a packet
abbrev pub as_in : Packet → Header → Header
as_in q h = record { place = h.place; bytes = take (length h.bytes) (from_place q h.place.at) }

-- an outcome without a header: it is taken out of the packet that goes on or is delivered. What is exposed has none of the
-- headers in front of it, and a fault has its place in the packet as it came
abbrev pub outcome_without : Header → Endpoint → Endpoint
outcome_without h (Onward q) = Onward (without q (as_in q h))
outcome_without h (Exposed family bytes) = Exposed family bytes
outcome_without h (Delivered q) = Delivered (without q (as_in q h))
outcome_without h (Refused reason at) = Refused reason at

-- the step over a segment routing header leaves no segment
abbrev pub leaves_none : Srh → Bool
leaves_none s = s.segments_left == 1

-- the outcome of the step over a segment routing header: a SID with PSP takes that header out where Segments Left becomes 0
-- (RFC 8986 section 4.16.1)
abbrev pub after_step : SidEntry → Header → Endpoint → Endpoint
after_step s h stepped = if s.psp && leaves_none (srh_of h.bytes) then outcome_without h stepped else stepped

-- the outcome after a segment routing header with no segments left: a SID with USP takes that header out (RFC 8986 section
-- 4.16.2); that it takes out each such header, and that a drop behind leaves the packet as it came, are own rules
abbrev pub after_last : SidEntry → Header → Endpoint → Endpoint
after_last s h behind = if s.usp then outcome_without h behind else behind

-- a header whose segments are whole: with no segments left it is passed over; a SID that goes on takes the step over it, and
-- before another one no segments may be left (RFC 8986 sections 4.1 to 4.8, 4.13 and 4.14)
abbrev pub at_whole_segments : SidEntry → Packet → Header → Endpoint → Endpoint
at_whole_segments s p h behind =
    if segments_left h == 0 then after_last s h behind
    else if goes_on s then after_step s h (next_segment p h.place.at (srh_of h.bytes))
    else Refused reasons.BadSegments (h.place.at + segments_left_at)

-- ---- REPLACE-CSID (RFC 9800 section 4.2)

-- what comes of a header by its step: a packet that moved on goes on, with PSP without the header where no segment is left then; at
-- the end the header is passed over
abbrev pub by_replace_step : SidEntry → Header → Endpoint → ReplaceStep → Endpoint
by_replace_step s h behind (Moved q ended) = if s.psp && ended then outcome_without h (Onward q) else Onward q
by_replace_step s h behind AtEnd = after_last s h behind
by_replace_step s h behind (Dropped fault) = Refused fault.reason fault.at

-- a header whose segments are packed: a SID that goes on takes the step, and before another one the header is at its end
abbrev pub at_packed_segments : SidEntry → Packet → Header → Endpoint → Endpoint
at_packed_segments s p h behind =
    if goes_on s then by_replace_step s h behind (replace_step (compression_of s) p h.place.at (srh_of h.bytes))
    else if is_at_end (compression_of s) (srh_of h.bytes) p.destination then after_last s h behind
    else Refused reasons.BadSegments (h.place.at + segments_left_at)

-- a segment routing header at a SID
abbrev pub at_segment_routing : SidEntry → Packet → Header → Endpoint → Endpoint
at_segment_routing s p h behind =
    if is_replace s.csid then at_packed_segments s p h behind else at_whole_segments s p h behind

-- a routing header that the node does not know: with no segments left it is passed over (RFC 8200 section 4.4)
abbrev pub unknown_routing : Header → Endpoint → Endpoint
unknown_routing h behind = if segments_left h == 0 then behind else Refused reasons.UnknownRouting (h.place.at + routing_type_at)

-- Hop-by-Hop Options are skipped where the IPv6 header names them, and stand nowhere else (RFC 8200 section 4.1; that the
-- node that the packet is for skips them too is an own rule)
abbrev pub at_hop_by_hop : Header → Endpoint → Endpoint
at_hop_by_hop h behind = if is_first h.place then behind else Refused reasons.LateHopByHop h.place.named_at

-- a header, given what came of those after it: the options of Destination Options are looked at, a Fragment header is not
-- processed, and a word says what is done with a routing header
abbrev pub at_header_by : (Header → Endpoint → Endpoint) → Header → Endpoint → Endpoint
at_header_by at_routing h behind =
    if h.place.kind == hop_by_hop then at_hop_by_hop h behind
    else if h.place.kind == destination_options then unless_fault (options_fault h) behind
    else if h.place.kind == fragment then Refused reasons.Fragment h.place.at
    else at_routing h behind

-- a routing header at a SID
abbrev pub at_sid_routing : SidEntry → Packet → Header → Endpoint → Endpoint
at_sid_routing s p h behind =
    if is_segment_routing h then at_segment_routing s p h behind else unknown_routing h behind

-- ---- NEXT-CSID (RFC 9800 section 4.1)

-- a SID of NEXT-CSID has a SID after it in the packet's destination
abbrev pub shifts_at : SidEntry → Packet → Bool
shifts_at s p = shifts (compression_of s) p.destination

-- the next SID is moved up in the destination; the hop limit is judged
abbrev pub next_csid : SidEntry → Packet → Endpoint
next_csid s p = if nat_le p.hop_limit 1 then Refused reasons.HopLimit 0 else Onward (shifted (compression_of s) p)

-- the headers that are looked at before a shift: Hop-by-Hop and Destination Options
abbrev pub is_options : Header → Bool
is_options h = (h.place.kind == hop_by_hop) || (h.place.kind == destination_options)

-- a header at a SID: where the SID shifts, it does so at the first header that has no options, without a look inside, at a Fragment
-- header too
abbrev pub at_header : SidEntry → Packet → Header → Endpoint → Endpoint
at_header s p h behind =
    if shifts_at s p && not (is_options h) then next_csid s p else at_header_by (at_sid_routing s p) h behind

-- the upper layer at a SID that does not shift: a SID that exposes it exposes the packet inside, of the family that its kind names
abbrev pub at_last_upper : SidEntry → List ℕ → Packet → ChainPlace → Endpoint
at_last_upper s allow p place =
    if exposes s place.kind then Exposed (family_inside place.kind) (from_place p place.at) else upper_layer allow p place

-- the upper layer at a SID; in front of it a SID shifts too
abbrev pub at_upper : SidEntry → List ℕ → Packet → ChainPlace → Endpoint
at_upper s allow p place = if shifts_at s p then next_csid s p else at_last_upper s allow p place

abbrev pub at_end : SidEntry → List ℕ → Packet → ChainEnd → Endpoint
at_end s allow p (Upper place) = at_upper s allow p place
at_end s allow p (Cut place) = Refused reasons.BadChain place.at

-- a packet at a SID of a node that takes some upper layers there
abbrev pub at_sid : SidEntry → List ℕ → Packet → Endpoint
at_sid s allow p = let c = chain_of p in over_headers (at_header s p) c.headers (at_end s allow p c.end)

-- a header at the node's own address, where every routing header is unknown, one of segment routing too (RFC 8200 section 4.4,
-- RFC 8754 section 4.3.2)
abbrev pub at_address_header : Header → Endpoint → Endpoint
at_address_header h behind = at_header_by unknown_routing h behind

-- every upper layer is taken at the node's own address
abbrev pub at_address_end : Packet → ChainEnd → Endpoint
at_address_end p (Upper place) = Delivered p
at_address_end p (Cut place) = Refused reasons.BadChain place.at

-- a packet at the node's own address
abbrev pub at_address : Packet → Endpoint
at_address p = let c = chain_of p in over_headers at_address_header c.headers (at_address_end p c.end)
