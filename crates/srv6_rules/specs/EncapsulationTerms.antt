-- Need not be believed: helps proofs and other laws.
-- Terms beside those of `specs/Encapsulation.antt`.
use Rattle.std.specs.Prelude.{ℕ, ◌-◌, ◌^◌, ◌<◌, ◌≤◌, if◌then◌else◌, List, length, All}
use Rattle.srv6_rules.specs.declared.numbers.TheConstants.{MAX_SEGMENTS, NEXT_HEADER_AT}
use Rattle.srv6_rules.specs.Packet.{Packet, header_len, spelling}
use Rattle.srv6_rules.specs.Srh.{srh_spelling}
use Rattle.srv6_rules.specs.Chain.{ChainPlace, Header, routing}
use Rattle.srv6_rules.specs.Behaviours.{ipv6_inside}
use Rattle.srv6_rules.specs.Encapsulation.{Encapsulation, has_segment_routing, segment_routing_of, pushed, header_bytes, inner_lowered}

-- that header as the first of the outer packet's chain
abbrev pub header_of : Encapsulation → ℕ → Header
header_of e left =
    record {
      place = record { at = header_len; kind = routing; named_at = NEXT_HEADER_AT };
      bytes = srh_spelling (segment_routing_of e left);
    }

-- the same packet once its segment routing header is taken out: the IPv6 header names the packet inside (RFC 8986 section
-- 4.16.1)
abbrev pub bare : Encapsulation → List ℕ → ℕ → ℕ → Packet
bare e inner hop destination =
    record {
      traffic_class = e.traffic_class;
      flow_label = e.flow_label;
      next_header = ipv6_inside;
      hop_limit = hop;
      source = e.source;
      destination = destination;
      payload = inner;
    }

-- where the packet inside stands then
abbrev pub bare_place : ChainPlace
bare_place = record { at = header_len; kind = ipv6_inside; named_at = NEXT_HEADER_AT }

-- where the inner packet stands: after the header bytes, and the last of the headers in front of it names it
abbrev pub inner_place : Encapsulation → ChainPlace
inner_place e =
    record {
      at = header_bytes e.reduced (length e.segments);
      kind = ipv6_inside;
      named_at = if has_segment_routing e then header_len else NEXT_HEADER_AT;
    }

-- H.Encaps, or H.Encaps.Red where the form is reduced: of a packet whose hop limit is above 1, with the outer hop limit
abbrev pub encapsulated : Encapsulation → Packet → ℕ → Packet
encapsulated e p hop = pushed e (spelling (inner_lowered p)) hop

-- the encapsulations of packets that bytes can spell: each field fits its width, and at most 127 addresses are visited,
-- so that the header's length fits its byte
pub record IsSpellableEncapsulation (e : Encapsulation) : Type 0 where
  pub traffic_class : e.traffic_class < 2 ^ 8
  pub flow_label : e.flow_label < 2 ^ 20
  pub source : e.source < 2 ^ 128
  pub some : 0 < length e.segments
  pub most : length e.segments ≤ MAX_SEGMENTS
  pub segments : All (λ a. a < 2 ^ 128) e.segments
