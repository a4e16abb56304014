-- The headers of a packet as lines of text. Numbers are decimal, lengths are in bytes, and a place is counted in
-- bytes from the packet's first.
use Rattle.std.specs.Prelude.{ℕ, ◌+◌, ◌-◌, ◌==◌, min, nat_lt, if◌then◌else◌, List, [], ◌∷◌, ◌++◌, length, codes, flat_map}
use Rattle.std.specs.List.{range_with_len}
use Rattle.std.specs.Fmt.{decimal}
use Rattle.v6_addr.specs.Text.{address_text}
use Rattle.v6_addr.specs.Text4.{address4_text}
use Rattle.srv6_rules.specs.declared.reason.Reason.{Reason}
use Rattle.srv6_rules.specs.declared.reason.Reason.TheVariants.{BadVersion}
use Rattle.srv6_rules.specs.Packet.{Packet, Content, V6, V4, Unreadable, header_len}
use Rattle.srv6_rules.specs.Packet4.{Packet4, ttl, protocol, source4, destination4, spelling4}
use Rattle.srv6_rules.specs.Chain.{Header, ChainEnd, Upper, Cut, Chain, hop_by_hop, fragment, destination_options, chain_of, is_segment_routing, routing_type, segments_left}
use Rattle.srv6_rules.specs.Srh.{Srh, srh_of, entries_of, entry_of, tlv_bytes}

-- the line over a packet's lines: its number
unfoldable pub number_line : ℕ → List ℕ
number_line number = codes "packet " ++ (decimal number ++ 10 ∷ [])

-- the IPv6 header (RFC 8200 section 3)
unfoldable pub ip6_line : Packet → List ℕ
ip6_line p =
    codes "ip6 class " ++ (decimal p.traffic_class ++ (codes " flow " ++ (decimal p.flow_label
    ++ (codes " payload " ++ (decimal (length p.payload) ++ (codes " next " ++ (decimal p.next_header
    ++ (codes " hop " ++ (decimal p.hop_limit ++ (codes " src " ++ (address_text p.source
    ++ (codes " dst " ++ (address_text p.destination ++ 10 ∷ [])))))))))))))

-- an IPv4 packet, its header among its length (RFC 791 section 3.1)
unfoldable pub ip4_line : Packet4 → List ℕ
ip4_line p =
    codes "ip4 ttl " ++ (decimal (ttl p) ++ (codes " proto " ++ (decimal (protocol p)
    ++ (codes " total " ++ (decimal (length (spelling4 p)) ++ (codes " src " ++ (address4_text (source4 p)
    ++ (codes " dst " ++ (address4_text (destination4 p) ++ 10 ∷ [])))))))))

-- the end of a line: where something stands, and how long it is
abbrev pub stands : ℕ → ℕ → List ℕ
stands at len = codes " at " ++ (decimal at ++ (codes " bytes " ++ (decimal len ++ 10 ∷ [])))

-- headers of options (RFC 8200 sections 4.3 and 4.6)

unfoldable pub hop_by_hop_line : ℕ → ℕ → List ℕ
hop_by_hop_line at len = codes "hop-by-hop" ++ stands at len

unfoldable pub destination_line : ℕ → ℕ → List ℕ
destination_line at len = codes "destination" ++ stands at len

-- a routing header of another type than 4 (RFC 8200 section 4.4)
unfoldable pub routing_line : ℕ → ℕ → ℕ → ℕ → List ℕ
routing_line kind left at len = codes "routing type " ++ (decimal kind ++ (codes " left " ++ (decimal left ++ stands at len)))

-- a fragment header (RFC 8200 section 4.5)
unfoldable pub fragment_line : ℕ → List ℕ
fragment_line at = codes "fragment at " ++ (decimal at ++ 10 ∷ [])

-- a segment routing header: its fixed fields (RFC 8754 section 2)
unfoldable pub srh_line : Srh → ℕ → ℕ → List ℕ
srh_line s at len =
    codes "srh next " ++ (decimal s.next_header ++ (codes " left " ++ (decimal s.segments_left
    ++ (codes " last " ++ (decimal s.last_entry ++ (codes " flags " ++ (decimal s.flags
    ++ (codes " tag " ++ (decimal s.tag ++ stands at len)))))))))

-- an entry of its segment list, at a place counted from 0
unfoldable pub entry_line : Srh → ℕ → List ℕ
entry_line s i = codes "entry " ++ (decimal i ++ 32 ∷ (address_text (entry_of s i) ++ 10 ∷ []))

-- the entries that are shown: those up to Last Entry that are there
abbrev pub shown_entries : Srh → ℕ
shown_entries s = min (s.last_entry + 1) (entries_of s)

abbrev pub entries_lines : Srh → List ℕ
entries_lines s = flat_map (entry_line s) (range_with_len 0 (shown_entries s))

-- the type-length-value area by its length, where the entry at Last Entry is there
unfoldable pub tlvs_line : ℕ → List ℕ
tlvs_line len = codes "tlvs " ++ (decimal len ++ 10 ∷ [])

unfoldable pub bad_last_entry_line : List ℕ
bad_last_entry_line = codes "bad last entry" ++ 10 ∷ []

abbrev pub area_line : Srh → List ℕ
area_line s = if nat_lt s.last_entry (entries_of s) then tlvs_line (length (tlv_bytes s)) else bad_last_entry_line

abbrev pub srh_lines : Srh → ℕ → ℕ → List ℕ
srh_lines s at len = srh_line s at len ++ (entries_lines s ++ area_line s)

-- an extension header, wherever it stands
abbrev pub header_lines : Header → List ℕ
header_lines h =
    if h.place.kind == hop_by_hop then hop_by_hop_line h.place.at (length h.bytes)
    else if h.place.kind == destination_options then destination_line h.place.at (length h.bytes)
    else if h.place.kind == fragment then fragment_line h.place.at
    else if is_segment_routing h then srh_lines (srh_of h.bytes) h.place.at (length h.bytes)
    else routing_line (routing_type h) (segments_left h) h.place.at (length h.bytes)

-- the upper layer, up to the packet's end
unfoldable pub upper_line : ℕ → ℕ → ℕ → List ℕ
upper_line kind at len = codes "upper " ++ (decimal kind ++ stands at len)

-- an extension header that is cut
unfoldable pub bad_chain_line : ℕ → List ℕ
bad_chain_line at = codes "bad chain at " ++ (decimal at ++ 10 ∷ [])

-- the end of the chain of a packet of a length
abbrev pub end_line : ℕ → ChainEnd → List ℕ
end_line len (Upper place) = upper_line place.kind place.at (len - place.at)
end_line len (Cut place) = bad_chain_line place.at

-- headers in order, and the chain's end; nothing is shown after a fragment header
abbrev pub headers_lines : ℕ → List Header → ChainEnd → List ℕ
headers_lines len [] end = end_line len end
headers_lines len (h ∷ hs) end = header_lines h ++ (if h.place.kind == fragment then [] else headers_lines len hs end)

abbrev pub chain_lines : Packet → Chain → List ℕ
chain_lines p c = headers_lines (header_len + length p.payload) c.headers c.end

-- bytes that do not read are of another version, or else there are too few of them, or their header states lengths that do not
-- fit (RFC 8200 section 3, RFC 791 section 3.1)

unfoldable pub bad_version_line : List ℕ
bad_version_line = codes "bad version" ++ 10 ∷ []

unfoldable pub truncated_line : List ℕ
truncated_line = codes "truncated" ++ 10 ∷ []

abbrev pub fault_line : Reason → List ℕ
fault_line BadVersion = bad_version_line
fault_line reason = truncated_line

-- what bytes read as; nothing is shown after an IPv4 header
abbrev pub content_lines : Content → List ℕ
content_lines (V6 p) = ip6_line p ++ chain_lines p (chain_of p)
content_lines (V4 p) = ip4_line p
content_lines (Unreadable bytes reason) = fault_line reason

-- a packet of a number, by what its bytes read as
abbrev pub packet_lines : ℕ → Content → List ℕ
packet_lines number content = number_line number ++ content_lines content
