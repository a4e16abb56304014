-- Encapsulation of a packet after an outer IPv6 header and a segment list: H.Encaps and its reduced form (RFC 8986
-- sections 5.1 and 5.2, RFC 8754 sections 2, 4.1 and 4.1.1).
use Rattle.std.specs.Prelude.{ℕ, ◌+◌, ◌-◌, ◌*◌, Bool, not, ◌||◌, nat_lt, if◌then◌else◌, List, ◌++◌, length, drop, reverse, slice_index, flat_map}
use Rattle.srv6_rules.specs.Packet.{Packet, address_bytes}
use Rattle.srv6_rules.specs.Srh.{Srh, srh_spelling}
use Rattle.srv6_rules.specs.Chain.{routing}
use Rattle.srv6_rules.specs.Behaviours.{ipv6_inside}

-- what a packet is encapsulated with, but for the hop limit: the outer header's fields; the segments, at least one, in
-- the order in which they are visited; and whether it is the reduced form, whose segment list lacks the first segment
pub record Encapsulation : Type 0 where
  pub traffic_class : ℕ
  pub flow_label : ℕ
  pub source : ℕ
  pub reduced : Bool
  pub segments : List ℕ

-- the entries of the segment list, which begins with the last segment (RFC 8754 section 2)
abbrev pub segment_list : Encapsulation → List ℕ
segment_list e = reverse (if e.reduced then drop 1 e.segments else e.segments)

-- the reduced form of one segment has no segment routing header (own rule; RFC 8986 section 5.2 lets it be left out)
abbrev pub has_segment_routing : Encapsulation → Bool
has_segment_routing e = not e.reduced || nat_lt 1 (length e.segments)

-- the segment routing header with these Segments Left: an entry is two 8-byte units, Last Entry is the last entry's
-- place counted from 0, and there are no flags, no tag and no type-length-value area
abbrev pub segment_routing_of : Encapsulation → ℕ → Srh
segment_routing_of e left =
    record {
      next_header = ipv6_inside;
      extension_len = 2 * length (segment_list e);
      segments_left = left;
      last_entry = length (segment_list e) - 1;
      flags = 0;
      tag = 0;
      body = flat_map address_bytes (segment_list e);
    }

-- the packet round the bytes of the inner one, with these Segments Left, hop limit and destination
abbrev pub outer : Encapsulation → List ℕ → ℕ → ℕ → ℕ → Packet
outer e inner left hop destination =
    record {
      traffic_class = e.traffic_class;
      flow_label = e.flow_label;
      next_header = if has_segment_routing e then routing else ipv6_inside;
      hop_limit = hop;
      source = e.source;
      destination = destination;
      payload = if has_segment_routing e then srh_spelling (segment_routing_of e left) ++ inner else inner;
    }

-- the packet while the segment at a place counted from 0 is the active one: the destination is that segment, and
-- Segments Left counts the segments after it
abbrev pub at_segment : Encapsulation → List ℕ → ℕ → ℕ → Packet
at_segment e inner i hop = outer e inner (length e.segments - 1 - i) hop (slice_index e.segments i)

-- the packet as it is made, with a hop limit: the first segment is the active one
abbrev pub pushed : Encapsulation → List ℕ → ℕ → Packet
pushed e inner hop = at_segment e inner 0 hop

-- the header bytes in front of the inner packet, by the form and the number of segments, at least one
abbrev pub header_bytes : Bool → ℕ → ℕ
header_bytes reduced count = if reduced then (if nat_lt 1 count then 32 + 16 * count else 40) else 48 + 16 * count

-- an inner packet before it is encapsulated: the hop limit is one less (RFC 8986 section 5.1)
abbrev pub inner_lowered : Packet → Packet
inner_lowered p = record p { hop_limit = p.hop_limit - 1 }
