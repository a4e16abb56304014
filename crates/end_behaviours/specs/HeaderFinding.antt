-- Need not be believed: helps proofs and other laws.
-- What decides what comes of a packet at a SID, before anything is written (RFC 8986 section 4).
use Rattle.std.specs.Prelude.{◌≡◌, ℕ, ◌+◌, ◌-◌, ◌≤◌, Bool, true, false, ◌==◌, if◌then◌else◌, List, length, take, Option, Some, None}
use Rattle.srv6_rules.specs.declared.numbers.TheConstants.{MAX_PACKET_LEN}
use Rattle.srv6_rules.specs.declared.sid.SidEntry.{SidEntry}
use Rattle.srv6_rules.specs.Packet.{Packet, header_len}
use Rattle.srv6_rules.specs.Srh.{srh_of}
use Rattle.srv6_rules.specs.Chain.{ChainPlace, Header, from_place, is_segment_routing, segments_left}
use Rattle.srv6_rules.specs.ChainTerms.{LiesIn, StandsIn, chain_at, place_behind}
use Rattle.srv6_rules.specs.CompressedSteps.{compression_of, is_at_end, is_replace}
use Rattle.srv6_rules.specs.Endpoint.{Endpoint, Exposed, Delivered, Refused, at_end, at_header, at_segment_routing, next_csid, outcome_without, shifts_at}
use Rattle.srv6_rules.specs.EndpointTerms.{IsPassed, over_chain}
use Rattle.ip6_headers.specs.ChainStepping.{place_view}
use Rattle.end_behaviours.specs.declared.end_headers.Found.{Found}
use Rattle.end_behaviours.specs.declared.end_headers.Found.TheVariants.{Last, Decided}
use Rattle.end_behaviours.specs.declared.end_headers.Decision.{Decision}
use Rattle.end_behaviours.specs.declared.end_headers.Decision.TheVariants.{Shift, Step, Expose, Deliver, Refuse}

-- what comes of a packet at a SID from a place of its chain on
abbrev pub at_sid_from : SidEntry → List ℕ → Packet → ChainPlace → Endpoint
at_sid_from s allow p place = over_chain (at_header s p) (at_end s allow p) (chain_at p place)

-- a segment routing header is at its end for a SID
abbrev pub is_last : SidEntry → Packet → Header → Bool
is_last s p h =
    if is_replace s.csid then is_at_end (compression_of s) (srh_of h.bytes) p.destination else (segments_left h == 0)

-- the header of so many bytes at a place of a packet
abbrev pub header_of : Packet → ChainPlace → ℕ → Header
header_of p place len = record { place = place; bytes = take len (from_place p place.at) }

-- a segment routing header lies at a place of a packet, which is no earlier than another
pub record LiesAt (p : Packet) (first : ℕ) (place : ChainPlace) (len : ℕ) : Type 0 where
  pub lies : LiesIn p (header_of p place len)
  pub long : length (header_of p place len).bytes ≡ len
  pub stands : StandsIn p place
  pub later : first ≤ place.at
  pub routing : is_segment_routing (header_of p place len) ≡ true

-- the step is taken over the header
pub record IsStep (s : SidEntry) (p : Packet) (first : ℕ) (e : Endpoint) (place : ChainPlace) (len : ℕ) : Type 0 where
  pub header : LiesAt p first place len
  pub more : is_last s p (header_of p place len) ≡ false
  pub behind : Endpoint
  pub is : e ≡ at_segment_routing s p (header_of p place len) behind

-- the header is taken out of what comes of those after it
pub record IsLast (p : Packet) (first : ℕ) (rest : ChainPlace → Endpoint) (e : Endpoint) (place next : ChainPlace) : Type 0 where
  pub header : LiesAt p first place (next.at - place.at)
  pub goes : next ≡ place_behind (header_of p place (next.at - place.at))
  pub stands : StandsIn p next
  pub is : e ≡ outcome_without (header_of p place (next.at - place.at)) (rest next)

-- a place in the packet or at its end, which is no earlier than another
pub record IsWithin (p : Packet) (first at : ℕ) : Type 0 where
  pub behind : header_len ≤ at
  pub within : at ≤ header_len + length p.payload
  pub later : first ≤ at

-- what is decided is what comes of a packet, and can be done
abbrev pub IsDecided : SidEntry → Packet → ℕ → Endpoint → Decision → Type 0
IsDecided s p first e Shift = (shifts_at s p ≡ true) × (e ≡ next_csid s p)
IsDecided s p first e (Step place len) = IsStep s p first e (place_view place) len
IsDecided s p first e (Expose family at) = (e ≡ Exposed family (from_place p at)) × IsWithin p first at
IsDecided s p first e Deliver = e ≡ Delivered p
IsDecided s p first e (Refuse fault) = (e ≡ Refused fault.reason fault.at) × (fault.at ≤ MAX_PACKET_LEN)

-- a decision that comes of some packet's chain
abbrev pub CanBeDone : SidEntry → Packet → Decision → Type 0
CanBeDone s p decision = (first : ℕ) × ((e : Endpoint) × IsDecided s p first e decision)

-- what is found is what comes of a packet, and can be done; `rest` is what comes of it from each place on
abbrev pub IsFound : SidEntry → Packet → ℕ → (ChainPlace → Endpoint) → Endpoint → Found → Type 0
IsFound s p first rest e (Last place next) = IsLast p first rest e (place_view place) (place_view next)
IsFound s p first rest e (Decided decision) = IsDecided s p first e decision

-- what is found at a header, whatever comes of the packet after it; none where it is passed over
abbrev pub IsFoundAt : SidEntry → Packet → Header → Option Found → Type 0
IsFoundAt s p h None = IsPassed (at_header s p) h
IsFoundAt s p h (Some found) =
    (first : ℕ) (rest : ChainPlace → Endpoint) → first ≤ h.place.at
    → IsFound s p first rest (at_header s p h (rest (place_behind h))) found
