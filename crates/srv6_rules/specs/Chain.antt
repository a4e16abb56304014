-- The chain of extension headers after an IPv6 header (RFC 8200 section 4). Places count from the packet's first byte.
use Rattle.std.specs.Prelude.{ℕ, zero, suc, ◌+◌, ◌-◌, ◌*◌, Bool, ◌==◌, ◌&&◌, ◌||◌, nat_le, if◌then◌else◌, List, [], ◌∷◌, ◌++◌, length, take, drop, slice_index, slice_set}
use Rattle.srv6_rules.specs.declared.numbers.TheConstants.{HOP_BY_HOP, ROUTING, FRAGMENT, DESTINATION_OPTIONS, EXTENSION_UNIT, EXTENSION_LEN_AT, NEXT_HEADER_AT}
use Rattle.srv6_rules.specs.Packet.{Packet, header_len}
use Rattle.srv6_rules.specs.Srh.{segment_routing, routing_type_at, segments_left_at}

-- where a chain has come to: a place, the next-header value that names what stands there, and the place of the field that
-- held that value
pub record ChainPlace : Type 0 where
  pub at : ℕ
  pub kind : ℕ
  pub named_at : ℕ

-- an extension header: where it stands, and its bytes
pub record Header : Type 0 where
  pub place : ChainPlace
  pub bytes : List ℕ

-- how a chain ends: with an upper layer, or at an extension header that is cut
pub data ChainEnd : Type 0 where
  Upper : ChainPlace → ChainEnd
  Cut : ChainPlace → ChainEnd

pub record Chain : Type 0 where
  pub headers : List Header
  pub end : ChainEnd

-- Hop-by-Hop Options, Routing, Fragment and Destination Options; every other value names an upper layer
abbrev pub hop_by_hop : ℕ
hop_by_hop = HOP_BY_HOP

abbrev pub routing : ℕ
routing = ROUTING

abbrev pub fragment : ℕ
fragment = FRAGMENT

abbrev pub destination_options : ℕ
destination_options = DESTINATION_OPTIONS

abbrev pub is_extension : ℕ → Bool
is_extension kind = (kind == hop_by_hop) || ((kind == routing) || ((kind == fragment) || (kind == destination_options)))

-- the length in bytes of the header that these bytes begin with; a Fragment header has always 8
abbrev pub extension_bytes : ℕ → List ℕ → ℕ
extension_bytes kind bytes = if kind == fragment then EXTENSION_UNIT else EXTENSION_UNIT * (slice_index bytes EXTENSION_LEN_AT + 1)

-- the whole header is there
abbrev pub is_whole : ℕ → List ℕ → Bool
is_whole kind bytes = nat_le EXTENSION_UNIT (length bytes) && nat_le (extension_bytes kind bytes) (length bytes)

-- the header that these bytes begin with, and where the chain goes on after it: its first byte names what stands there
abbrev pub header_in : ChainPlace → List ℕ → Header
header_in p bytes = record { place = p; bytes = take (extension_bytes p.kind bytes) bytes }

abbrev pub behind_in : ChainPlace → List ℕ → ChainPlace
behind_in p bytes = record { at = p.at + extension_bytes p.kind bytes; kind = slice_index bytes 0; named_at = p.at }

abbrev pub behind : Header → Chain → Chain
behind h c = record { headers = h ∷ c.headers; end = c.end }

-- no bytes are left: an extension header is cut, and anything else is an upper layer of no bytes
abbrev pub ended : ChainPlace → Chain
ended p = record { headers = []; end = if is_extension p.kind then Cut p else Upper p }

-- the chain from a place on, which stands after so many of these bytes
unfoldable pub chain_from : ℕ → ChainPlace → List ℕ → Chain
chain_from skip p [] = ended p
chain_from (suc skip) p (b ∷ bytes) = chain_from skip p bytes
chain_from zero p (b ∷ bytes) =
    if is_extension p.kind
    then (if is_whole p.kind (b ∷ bytes)
    then behind (header_in p (b ∷ bytes)) (chain_from (extension_bytes p.kind (b ∷ bytes) - 1) (behind_in p (b ∷ bytes)) bytes)
    else record { headers = []; end = Cut p })
    else record { headers = []; end = Upper p }

-- the first header or upper layer of a packet stands after its IPv6 header, which names it
abbrev pub start_of : Packet → ChainPlace
start_of p = record { at = header_len; kind = p.next_header; named_at = NEXT_HEADER_AT }

-- the chain of a packet
abbrev pub chain_of : Packet → Chain
chain_of p = chain_from 0 (start_of p) p.payload

-- the bytes of a packet's payload from a place of the packet on
abbrev pub from_place : Packet → ℕ → List ℕ
from_place p at = drop (at - header_len) p.payload

-- the first of a packet's headers: the IPv6 header itself names it
abbrev pub is_first : ChainPlace → Bool
is_first place = place.named_at == NEXT_HEADER_AT

-- a routing header's type, and its Segments Left (RFC 8200 section 4.4)
abbrev pub routing_type : Header → ℕ
routing_type h = slice_index h.bytes routing_type_at

abbrev pub segments_left : Header → ℕ
segments_left h = slice_index h.bytes segments_left_at

-- a segment routing header
abbrev pub is_segment_routing : Header → Bool
is_segment_routing h = (h.place.kind == routing) && (routing_type h == segment_routing)

-- the bytes without so many from a place on
abbrev pub cut_out : ℕ → ℕ → List ℕ → List ℕ
cut_out at n bytes = take at bytes ++ drop (at + n) bytes

-- the packet without a header of its chain: the field that named the header names what stood after it
abbrev pub without : Packet → Header → Packet
without p h =
    let next = slice_index h.bytes 0 in let at = h.place.at - header_len in
    if is_first h.place
    then record p { next_header = next; payload = cut_out at (length h.bytes) p.payload }
    else record p { payload = cut_out at (length h.bytes) (slice_set p.payload (h.place.named_at - header_len) next) }
