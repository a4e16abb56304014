-- Need not be believed: helps proofs and other laws.
-- Terms beside those of `specs/Endpoint.antt`.
use Rattle.std.specs.Prelude.{◌≡◌, ◌≢◌, ◌⊎◌, ℕ, ◌+◌, ◌-◌, ◌<◌, ◌≤◌, Bool, true, false, ◌==◌, ◌&&◌, if◌then◌else◌, List, ◌∷◌, ◌++◌, length, slice_index, slice_set, All, None}
use Rattle.srv6_rules.specs.declared.numbers.TheConstants.{HOP_LIMIT_AT, DESTINATION_AT}
use Rattle.srv6_rules.specs.declared.family.Family.{Family}
use Rattle.srv6_rules.specs.declared.family.Family.TheVariants as families
use Rattle.srv6_rules.specs.declared.sid.SidEntry.{SidEntry}
use Rattle.srv6_rules.specs.Behaviours.{exposes, ipv6_inside, ipv4_inside}
use Rattle.srv6_rules.specs.Packet.{Packet, header_len}
use Rattle.srv6_rules.specs.Srh.{srh_of, entry_of, segments_left_at}
use Rattle.srv6_rules.specs.Areas.{tlvs_fault}
use Rattle.srv6_rules.specs.CompressedSteps.{Moved, compression_of, is_replace, replace_step}
use Rattle.srv6_rules.specs.Chain.{ChainPlace, Header, ChainEnd, Upper, Chain, segments_left, is_segment_routing, from_place, chain_of, without}
use Rattle.srv6_rules.specs.ChainTerms.{LiesIn}
use Rattle.srv6_rules.specs.Endpoint.{Endpoint, over_headers, as_in, outcome_without, shifts_at, at_header}

-- a chain: its headers one by one, the last of them given what came of the chain's end
abbrev pub over_chain : (Header → Endpoint → Endpoint) → (ChainEnd → Endpoint) → Chain → Endpoint
over_chain treat end c = over_headers treat c.headers (end c.end)

-- ---- NEXT-CSID (RFC 9800 section 4.1)

-- a header is passed over: what comes of the packet is what comes of those after it
abbrev pub IsPassed : (Header → Endpoint → Endpoint) → Header → Type 0
IsPassed treat h = (behind : Endpoint) → treat h behind ≡ behind

-- a header decides: what comes of the packet there does not depend on those after it
abbrev pub Decides : (Header → Endpoint → Endpoint) → Header → Type 0
Decides treat h = (one two : Endpoint) → treat h one ≡ treat h two

-- a header stands in a chain after headers of a kind
pub record IsReached (K : Header → Type 0) (headers : List Header) (h : Header) : Type 0 where
  pub before : List Header
  pub after : List Header
  pub split : headers ≡ before ++ h ∷ after
  pub passed : All K before

-- a header is taken out at a SID with USP: a segment routing header with no segments left
pub record IsTakenOut (s : SidEntry) (p : Packet) (h : Header) : Type 0 where
  pub usp : s.usp ≡ true
  pub routing : is_segment_routing h ≡ true
  pub none_left : segments_left h ≡ 0
  pub taken_out : (behind : Endpoint) → at_header s p h behind ≡ outcome_without h behind

-- a header does not decide at a SID: it is passed over, or taken out besides
abbrev pub IsSkipped : SidEntry → Packet → Header → Type 0
IsSkipped s p h = IsPassed (at_header s p) h ⊎ IsTakenOut s p h

-- a SID whose segments are whole, at a packet whose destination it does not shift
pub record TakesWhole (s : SidEntry) (p : Packet) : Type 0 where
  pub whole : is_replace s.csid ≡ false
  pub unshifted : shifts_at s p ≡ false

-- the packet after the step over a segment routing header after headers that are passed over at a SID: the hop
-- limit is one lower, Segments Left is one lower, the destination is that entry, and all else is as it was
pub record StepsTo (s : SidEntry) (p q : Packet) : Type 0 where
  pub header : Header
  pub left : ℕ
  pub reached : IsReached (IsPassed (at_header s p)) (chain_of p).headers header
  pub routing : is_segment_routing header ≡ true
  pub lies : LiesIn p header
  pub above_one : 1 < p.hop_limit
  pub hop_limit : p.hop_limit ≡ q.hop_limit + 1
  pub was_left : segments_left header ≡ left + 1
  pub no_fault : tlvs_fault header.place.at (srh_of header.bytes) ≡ None
  pub destination : q.destination ≡ entry_of (srh_of header.bytes) left
  pub payload : q.payload ≡ slice_set p.payload (header.place.at + segments_left_at - header_len) left
  pub others : q ≡ record p { hop_limit = q.hop_limit; destination = q.destination; payload = q.payload }

-- a packet that goes on from a SID without USP: it took the step, and with PSP, where no segments are left, its segment
-- routing header is taken out
pub record StepsWithPsp (s : SidEntry) (p q : Packet) : Type 0 where
  pub stepped : Packet
  pub step : StepsTo s p stepped
  pub popped : q ≡ (if s.psp && (step.left == 0) then without stepped (as_in stepped step.header) else stepped)

-- a packet that goes on from a SID of REPLACE-CSID without USP: it took the step over a segment routing header after headers that
-- are passed over, and with PSP, where no segment is left then, that header is taken out
pub record MovesWithPsp (s : SidEntry) (p q : Packet) : Type 0 where
  pub header : Header
  pub reached : IsReached (IsPassed (at_header s p)) (chain_of p).headers header
  pub routing : is_segment_routing header ≡ true
  pub lies : LiesIn p header
  pub stepped : Packet
  pub ended : Bool
  pub step : replace_step (compression_of s) p header.place.at (srh_of header.bytes) ≡ Moved stepped ended
  pub popped : q ≡ (if s.psp && ended then without stepped (as_in stepped header) else stepped)

-- bytes before and after a step: the hop limit and one byte after the IPv6 header are one lower, and but for these and
-- the destination, the IPv6 header's last bytes, each byte is as it was
pub record ChangesFewBytes (before after : List ℕ) : Type 0 where
  pub place : ℕ
  pub behind_header : header_len ≤ place
  pub within : place < length before
  pub same_length : length after ≡ length before
  pub hop_limit : slice_index before HOP_LIMIT_AT ≡ slice_index after HOP_LIMIT_AT + 1
  pub segments_left : slice_index before place ≡ slice_index after place + 1
  pub same : (k : ℕ) → k ≢ HOP_LIMIT_AT → k ≢ place → (k < DESTINATION_AT) ⊎ (header_len ≤ k)
      → slice_index after k ≡ slice_index before k

-- the packet inside that a SID exposes: the upper layer, after headers that are all passed over or taken out, is one that the SID
-- exposes, and the bytes are those of the packet from there on
pub record ExposesFrom (s : SidEntry) (p : Packet) (family : Family) (bytes : List ℕ) : Type 0 where
  pub place : ChainPlace
  pub upper : (chain_of p).end ≡ Upper place
  pub passed : All (IsSkipped s p) (chain_of p).headers
  pub exposed : exposes s place.kind ≡ true
  pub is_family : ((place.kind ≡ ipv6_inside) × (family ≡ families.V6))
      ⊎ ((place.kind ≡ ipv4_inside) × (family ≡ families.V4))
  pub within : place.at ≤ header_len + length p.payload
  pub inside : bytes ≡ from_place p place.at
