-- Need not be believed: helps proofs and other laws.
-- The segment routing header that is written over a segment list (RFC 8754 sections 2 and 4.1).
use Rattle.std.specs.Prelude.{ℕ, false, List, map, reverse}
use Rattle.v6_addr.specs.declared.address.Addr.{Addr}
use Rattle.srv6_rules.specs.Srh.{Srh}
use Rattle.srv6_rules.specs.Encapsulation.{Encapsulation, segment_routing_of}
use Rattle.srh_codec.specs.declared.write.SrhParts.{SrhParts}

-- addresses as numbers
abbrev pub numbers_of : List Addr → List ℕ
numbers_of list = map (λ a. a.value) list

-- an encapsulation whose segment list has these entries: they are visited from the last to the first
abbrev pub listing : List ℕ → Encapsulation
listing entries = record { traffic_class = 0; flow_label = 0; source = 0; reduced = false; segments = reverse entries }

-- the header over these entries with a next header and Segments Left: but for the next header it is that of an
-- encapsulating node
abbrev pub header_over : ℕ → ℕ → List ℕ → Srh
header_over next_header left entries = record (segment_routing_of (listing entries) left) { next_header = next_header }

abbrev pub header_of_parts : SrhParts → Srh
header_of_parts parts = header_over parts.next_header parts.segments_left (numbers_of parts.entries.now)
