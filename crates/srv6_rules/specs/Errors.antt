-- ICMPv6 errors: which one a drop gives, where none is made, and the packet that it is (RFC 4443 sections 2 and 3).
use Rattle.std.specs.Prelude.{ℕ, ◌/◌, Bool, true, false, not, ◌==◌, ◌&&◌, ◌||◌, nat_lt, if◌then◌else◌, List, ◌∷◌, ◌++◌, take, drop, slice_get, Option, Some, None}
use Rattle.std.specs.List.{list_any}
use Rattle.v6_addr.specs.AddressKinds.{is_unspecified, is_multicast}
use Rattle.srv6_rules.specs.declared.numbers.TheConstants.{ICMPV6, ICMPV6_HOP_LIMIT, MAX_QUOTE_LEN, DESTINATION_UNREACHABLE, PACKET_TOO_BIG, TIME_EXCEEDED, PARAMETER_PROBLEM, FIRST_INFORMATIONAL, REDIRECT, WRONG_FIELD, WRONG_NEXT_HEADER, UNKNOWN_OPTION, WRONG_UPPER_LAYER, FRAGMENT_OFFSET_AT, FRAGMENT_OFFSET_UNIT}
use Rattle.srv6_rules.specs.declared.icmp.IcmpKind.{IcmpKind}
use Rattle.srv6_rules.specs.declared.icmp.IcmpKind.TheVariants.{Unreachable, PacketTooBig, TimeExceeded, Parameter}
use Rattle.srv6_rules.specs.declared.reason.Reason.{Reason}
use Rattle.srv6_rules.specs.declared.reason.Reason.TheVariants as reasons
use Rattle.srv6_rules.specs.Packet.{Packet, spelling, two_bytes, four_bytes, two_number}
use Rattle.srv6_rules.specs.Chain.{Header, ChainEnd, Upper, Cut, Chain, fragment, from_place, chain_of}
use Rattle.srv6_rules.specs.Checksum.{checksum_of}

-- the error that a drop of an IPv6 packet gives, by its reason and a detail, if it gives one: the place of the fault, or for
-- MtuExceeded the MTU of the link (RFC 4443 section 3, RFC 8200 sections 4, 4.2, 4.4 and 5, RFC 8754 section 4.3.1.1, RFC 8986 section
-- 4.1.1; that others give none is an own rule)
abbrev pub kind_of : Reason → ℕ → Option IcmpKind
kind_of reasons.Truncated detail = None
kind_of reasons.BadVersion detail = None
kind_of reasons.Multicast detail = None
kind_of reasons.NoRoute detail = Some Unreachable
kind_of reasons.HopLimit detail = Some TimeExceeded
kind_of reasons.BadChain detail = None
kind_of reasons.LateHopByHop detail = Some (Parameter WRONG_NEXT_HEADER detail)
kind_of reasons.OptionDiscard detail = None
kind_of reasons.OptionUnknown detail = Some (Parameter UNKNOWN_OPTION detail)
kind_of reasons.Fragment detail = None
kind_of reasons.BadSegments detail = Some (Parameter WRONG_FIELD detail)
kind_of reasons.HmacTlv detail = None
kind_of reasons.BadTlv detail = None
kind_of reasons.UnknownRouting detail = Some (Parameter WRONG_FIELD detail)
kind_of reasons.UpperLayer detail = Some (Parameter WRONG_UPPER_LAYER detail)
kind_of reasons.Ttl detail = None
kind_of reasons.TooBig detail = None
kind_of reasons.InnerHop detail = None
kind_of reasons.MtuExceeded detail = Some (PacketTooBig detail)

-- the type, the code and the last four bytes of an error: the pointer of Parameter Problem, the MTU of Packet Too Big, and unused
-- in the others
abbrev pub type_of : IcmpKind → ℕ
type_of Unreachable = DESTINATION_UNREACHABLE
type_of (PacketTooBig mtu) = PACKET_TOO_BIG
type_of TimeExceeded = TIME_EXCEEDED
type_of (Parameter code at) = PARAMETER_PROBLEM

abbrev pub code_of : IcmpKind → ℕ
code_of Unreachable = 0
code_of (PacketTooBig mtu) = 0
code_of TimeExceeded = 0
code_of (Parameter code at) = code

abbrev pub last_word_of : IcmpKind → ℕ
last_word_of Unreachable = 0
last_word_of (PacketTooBig mtu) = mtu
last_word_of TimeExceeded = 0
last_word_of (Parameter code at) = at

-- ---- where no error is made

-- a Fragment header of another fragment than the first: what stands after it is no header (RFC 8200 section 4.5)
abbrev pub is_later_fragment : Header → Bool
is_later_fragment h = (h.place.kind == fragment) && nat_lt 0 (two_number (drop FRAGMENT_OFFSET_AT h.bytes) / FRAGMENT_OFFSET_UNIT)

-- an ICMPv6 message whose first byte is its type: an error or a redirect; one of no bytes is neither
abbrev pub is_error_type : Option ℕ → Bool
is_error_type None = false
is_error_type (Some kind) = nat_lt kind FIRST_INFORMATIONAL || (kind == REDIRECT)

abbrev pub ends_in_error : Packet → ChainEnd → Bool
ends_in_error p (Upper place) = (place.kind == ICMPV6) && is_error_type (slice_get (from_place p place.at) 0)
ends_in_error p (Cut place) = false

-- a chain of a packet leads to an error or a redirect
abbrev pub leads_to_error : Packet → Chain → Bool
leads_to_error p c = not (list_any is_later_fragment c.headers) && ends_in_error p c.end

-- the packet is itself an ICMPv6 error or a redirect, as far as its chain shows
unfoldable pub is_error_message : Packet → Bool
is_error_message p = leads_to_error p (chain_of p)

-- the errors that are made about a packet to a multicast destination too: Packet Too Big, so that path MTU discovery works for
-- multicast, and Parameter Problem for an unknown option (RFC 4443 section 2.4 (e.3))
abbrev pub may_answer_multicast : IcmpKind → Bool
may_answer_multicast Unreachable = false
may_answer_multicast (PacketTooBig mtu) = true
may_answer_multicast TimeExceeded = false
may_answer_multicast (Parameter code at) = code == UNKNOWN_OPTION

-- no error of a kind is made about a packet whose source is no one node's address, whose destination is multicast (but for the
-- two kinds above), or which is itself an error or a redirect (RFC 4443 section 2.4 (e.1) to (e.3) and (e.6)). Own rules: no
-- address is known to be anycast (e.6), a packet comes without its link layer (e.4, e.5), and the rate of errors is not limited
-- (f)
unfoldable pub is_unanswered : Packet → IcmpKind → Bool
is_unanswered p kind =
    is_unspecified p.source || (is_multicast p.source
    || ((is_multicast p.destination && not (may_answer_multicast kind)) || is_error_message p))

-- ---- the error

-- the bytes of an error message in front of what it quotes
abbrev pub message_head : IcmpKind → ℕ → List ℕ
message_head kind checksum = type_of kind ∷ code_of kind ∷ (two_bytes checksum ++ four_bytes (last_word_of kind))

-- as many of the packet's bytes as fit
abbrev pub quote_of : Packet → List ℕ
quote_of p = take MAX_QUOTE_LEN (spelling p)

-- the packet that carries an ICMPv6 message
abbrev pub icmp_packet : ℕ → ℕ → List ℕ → Packet
icmp_packet source destination message =
    record {
      traffic_class = 0;
      flow_label = 0;
      next_header = ICMPV6;
      hop_limit = ICMPV6_HOP_LIMIT;
      source = source;
      destination = destination;
      payload = message;
    }

-- the checksum of the error about a packet that goes from an address to the packet's source
abbrev pub error_checksum : Packet → IcmpKind → ℕ → ℕ
error_checksum p kind from = checksum_of from p.source ICMPV6 (message_head kind 0 ++ quote_of p)

-- the error of a kind about a packet, from an address
unfoldable pub error_about : Packet → IcmpKind → ℕ → Packet
error_about p kind from = icmp_packet from p.source (message_head kind (error_checksum p kind from) ++ quote_of p)

-- the same, if one is made
unfoldable pub error_packet : Packet → IcmpKind → ℕ → Option Packet
error_packet p kind from = if is_unanswered p kind then None else Some (error_about p kind from)
