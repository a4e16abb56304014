-- What comes of putting a policy's header in front of a packet: H.Encaps and its reduced form, and what binding SIDs put
-- there (RFC 8986 sections 4.13, 4.14, 5.1 and 5.2).
use Rattle.std.specs.Prelude.{ℕ, ◌-◌, Bool, nat_le, nat_lt, if◌then◌else◌, List, ◌++◌, length, map}
use Rattle.v6_addr.specs.declared.address.Addr.{Addr}
use Rattle.srv6_rules.specs.declared.policy.Policy.{Policy}
use Rattle.srv6_rules.specs.declared.family.Family.{Family}
use Rattle.srv6_rules.specs.declared.family.Family.TheVariants.{V6, V4}
use Rattle.srv6_rules.specs.Packet.{Packet, header_len, most_len}
use Rattle.srv6_rules.specs.Srh.{Srh, srh_spelling}
use Rattle.srv6_rules.specs.Chain.{routing}
use Rattle.srv6_rules.specs.Behaviours.{ipv6_inside, ipv4_inside}
use Rattle.srv6_rules.specs.Encapsulation.{Encapsulation, has_segment_routing, segment_routing_of, pushed}

-- what a policy encapsulates with, in the full or the reduced form
abbrev pub encapsulation_by : Policy → Bool → Encapsulation
encapsulation_by policy reduced =
    record {
      traffic_class = policy.traffic_class;
      flow_label = policy.flow_label;
      source = policy.source.value;
      reduced = reduced;
      segments = map (λ (a : Addr). a.value) policy.segments;
    }

-- the value that names a packet of a family inside a packet
abbrev pub inner_kind : Family → ℕ
inner_kind V6 = ipv6_inside
inner_kind V4 = ipv4_inside

-- the segment routing header in front of a packet of a family; all its segments but the first are left
abbrev pub routing_header : Encapsulation → Family → Srh
routing_header e inner = record (segment_routing_of e (length e.segments - 1)) { next_header = inner_kind inner }

-- the packet as it is made round the bytes of a packet of a family, with a hop limit: the last header in front of these
-- bytes names the family
abbrev pub pushed_round : Encapsulation → Family → List ℕ → ℕ → Packet
pushed_round e inner bytes hop =
    record (pushed e bytes hop) {
      next_header = if has_segment_routing e then routing else inner_kind inner;
      payload = if has_segment_routing e then srh_spelling (routing_header e inner) ++ bytes else bytes;
    }

-- the outer packet of a policy round the bytes of a packet of a family, in the full or the reduced form
abbrev pub outer_by : Policy → Bool → Family → List ℕ → Packet
outer_by policy reduced inner bytes = pushed_round (encapsulation_by policy reduced) inner bytes policy.hop_limit

-- the greatest payload length in bytes that a header can state
abbrev pub most_payload : ℕ
most_payload = most_len - header_len

-- what comes of it: the outer packet; or none, since its payload of so many bytes would be too long, or since the inner
-- packet's hop limit or TTL is at most 1
pub data Encapsulating : Type 0 where
  Outer : Packet → Encapsulating
  TooBig : ℕ → Encapsulating
  InnerHop : Encapsulating

abbrev pub unless_too_big : Packet → Encapsulating
unless_too_big p = if nat_lt most_payload (length p.payload) then TooBig (length p.payload) else Outer p

-- the header of a policy put in front of the bytes of a packet of a family, in the full or the reduced form
abbrev pub pushed_by : Policy → Bool → Family → List ℕ → Encapsulating
pushed_by policy reduced inner bytes = unless_too_big (outer_by policy reduced inner bytes)

-- H.Encaps of a packet of a family with a policy, in the policy's own form: of a packet with this hop limit or TTL, whose
-- bytes are these once it is lowered by one
abbrev pub headend_by : Policy → Family → ℕ → List ℕ → Encapsulating
headend_by policy inner hop lowered =
    if nat_le hop 1 then InnerHop else pushed_by policy policy.reduced inner lowered
