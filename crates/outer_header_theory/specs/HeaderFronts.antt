-- Need not be believed: helps proofs and other laws.
-- A header in front of an IPv6 packet, apart from the packet's bytes, and what comes of it at a SID for all bytes at once (RFC 8200
-- section 3, RFC 8754 section 2, RFC 8986 section 4).
use Rattle.std.specs.Prelude.{◌≡◌, ℕ, ◌*◌, Bool, if◌then◌else◌, List, ◌++◌, length, Option, Some, None}
use Rattle.srv6_rules.specs.declared.policy.Policy.{Policy}
use Rattle.srv6_rules.specs.declared.family.Family.TheVariants.{V6}
use Rattle.srv6_rules.specs.declared.reason.Reason.{Reason}
use Rattle.srv6_rules.specs.Packet.{Packet}
use Rattle.srv6_rules.specs.Srh.{Srh, srh_spelling}
use Rattle.srv6_rules.specs.Chain.{routing}
use Rattle.srv6_rules.specs.Behaviours.{ipv6_inside}
use Rattle.srv6_rules.specs.Encapsulation.{Encapsulation, has_segment_routing}
use Rattle.srv6_rules.specs.Policies.{encapsulation_by, routing_header}
use Rattle.srv6_rules.specs.Endpoint.{Endpoint, Onward, Exposed, Delivered, Refused}

-- a header in front of the bytes of an IPv6 packet: the IPv6 header's fields but for the next header, and the segment routing header
-- if there is one
abbrev pub filled : Packet → Option Srh → List ℕ → Packet
filled p None bytes = record p { next_header = ipv6_inside; payload = bytes }
filled p (Some s) bytes = record p { next_header = routing; payload = srh_spelling s ++ bytes }

-- a segment routing header in front of an IPv6 packet: it names that packet, and has the length that it states
abbrev pub IsFrontOf : Srh → Type 0
IsFrontOf s = (s.next_header ≡ ipv6_inside) × (length s.body ≡ 8 * s.extension_len)

abbrev pub AreFront : Option Srh → Type 0
AreFront None = Unit {0}
AreFront (Some s) = IsFrontOf s

-- what comes of a header at a SID, whatever bytes it stands in front of: it goes on as another header, it is taken off, it is handed to
-- the upper layer, or it is dropped for a fault at a place
pub data Fate : Type 0 where
  GoesOn : Packet → Option Srh → Fate
  IsTakenOff : Fate
  IsDelivered : Packet → Option Srh → Fate
  IsDropped : Reason → ℕ → Fate

-- the same in front of bytes
abbrev pub endpoint_of : Fate → List ℕ → Endpoint
endpoint_of (GoesOn p o) bytes = Onward (filled p o bytes)
endpoint_of IsTakenOff bytes = Exposed V6 bytes
endpoint_of (IsDelivered p o) bytes = Delivered (filled p o bytes)
endpoint_of (IsDropped reason at) bytes = Refused reason at

-- what is left is such a header again
abbrev pub IsFate : Fate → Type 0
IsFate (GoesOn p o) = AreFront o
IsFate IsTakenOff = Unit {0}
IsFate (IsDelivered p o) = AreFront o
IsFate (IsDropped reason at) = Unit {0}

-- the segment routing header that a policy puts in front of an IPv6 packet, if its form has one
abbrev pub front_of : Encapsulation → Option Srh
front_of e = if has_segment_routing e then Some (routing_header e V6) else None

abbrev pub front_by : Policy → Bool → Option Srh
front_by policy reduced = front_of (encapsulation_by policy reduced)
