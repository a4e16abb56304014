-- Need not be believed: helps proofs and other laws.
-- A packet's place in a list: the SID that is active, what is after it, and the packet there (RFC 8754 section 4.3, RFC 9800 section 4).
use Rattle.std.specs.Prelude.{◌≡◌, ℕ, ◌+◌, ◌*◌, ◌^◌, ◌<◌, Bool, true, false, ◌&&◌, not, if◌then◌else◌, List, [], ◌∷◌, ◌++◌, length, reverse, All, Option, Some, None, ◌⊎◌}
use Rattle.srv6_rules.specs.declared.sid.Csid.TheVariants.{Plain, Next, Replace}
use Rattle.srv6_rules.specs.declared.reason.Reason.TheVariants as reasons
use Rattle.srv6_rules.specs.declared.sid.SidEntry.{SidEntry}
use Rattle.srv6_rules.specs.Behaviours.{goes_on, exposes}
use Rattle.srv6_rules.specs.Endpoint.{Endpoint, Exposed, Delivered, Refused, is_allowed}
use Rattle.srv6_rules.specs.declared.family.Family.{Family}
use Rattle.srv6_rules.specs.declared.numbers.TheConstants.{SEGMENT_LIST_AT, SEGMENT_LEN}
use Rattle.srv6_rules.specs.Packet.{Packet, header_len}
use Rattle.srv6_rules.specs.Srh.{Srh, srh_spelling}
use Rattle.srv6_rules.specs.Chain.{routing}
use Rattle.srv6_rules.specs.CompressedStepsTerms.{index_behind}
use Rattle.srv6_rules.specs.Encapsulation.{Encapsulation, segment_list, segment_routing_of}
use Rattle.srv6_rules.specs.Policies.{inner_kind}
use Rattle.sid_list_spec.specs.SegmentLists.{SidBlock, ListSid, Container, Full, Packed, block_len, full_value, packed_value, values_of, last_of, IsFull, IsPacked, asked_behind, asked_behind_packed, Follow}
use Rattle.sid_list_theory.specs.SegmentListsTerms.{compression, sids_in, IsFlatSid, IsFlatList}

-- ---- places

-- a place is what is left of a list: the active SID, those after it in its container, and the containers after; in a REPLACE container
-- also the SIDs before it
pub data ListPlace : Type 0 where
  InFull : ListSid → List ListSid → List Container → ListPlace
  InPacked : List ListSid → ListSid → List ListSid → List Container → ListPlace

-- the SID that the destination is an address of
abbrev pub active : ListPlace → ListSid
active (InFull s ss cs) = s
active (InPacked bs s ss cs) = s

-- the containers after the active SID's: as many segments are left
abbrev pub behind_of : ListPlace → List Container
behind_of (InFull s ss cs) = cs
behind_of (InPacked bs s ss cs) = cs

-- the active SID and all that are visited after it
abbrev pub sids_from : ListPlace → List ListSid
sids_from (InFull s ss cs) = (s ∷ ss) ++ sids_in cs
sids_from (InPacked bs s ss cs) = (s ∷ ss) ++ sids_in cs

-- the place of a container's first SID
abbrev pub entered : Container → List Container → ListPlace
entered (Full s ss) cs = InFull s ss cs
entered (Packed s ss) cs = InPacked [] s ss cs

-- the first place of a list
abbrev pub first_of : List Container → Option ListPlace
first_of [] = None
first_of (c ∷ cs) = Some (entered c cs)

-- the place of the next SID, none after the last
abbrev pub next_of : ListPlace → Option ListPlace
next_of (InFull s (t ∷ ts) cs) = Some (InFull t ts cs)
next_of (InFull s [] cs) = first_of cs
next_of (InPacked bs s (t ∷ ts) cs) = Some (InPacked (bs ++ s ∷ []) t ts cs)
next_of (InPacked bs s [] cs) = first_of cs

-- the destination: what is left of a full container's value, and in a REPLACE container the SID's value and its index
abbrev pub destination_of : ListPlace → ℕ
destination_of (InFull s ss cs) = full_value s ss
destination_of (InPacked bs s ss cs) = s.prefix.value + index_behind (compression s) (length bs)

-- the segment routing header may lack in the last container, but in a REPLACE container, where it is read, only at the last SID
abbrev pub may_lack : ListPlace → Bool
may_lack (InFull s ss []) = true
may_lack (InFull s ss (c ∷ cs)) = false
may_lack (InPacked bs s [] []) = true
may_lack (InPacked bs s [] (c ∷ cs)) = false
may_lack (InPacked bs s (t ∷ ts) cs) = false

-- a further SID follows in a full container: NEXT-CSID shifts there
abbrev pub shifts_in : ListPlace → Bool
shifts_in (InFull s [] cs) = false
shifts_in (InFull s (t ∷ ts) cs) = true
shifts_in (InPacked bs s ss cs) = false

-- ---- the packet at a place

-- what stays as it is on the way: what is encapsulated with, the family of the packet inside, and its bytes
pub record Tunnel : Type 0 where
  pub encapsulation : Encapsulation
  pub inner : Family
  pub bytes : List ℕ

-- the segment routing header with these Segments Left
abbrev pub header_with : Tunnel → ℕ → Srh
header_with t left = record (segment_routing_of t.encapsulation left) { next_header = inner_kind t.inner }

-- the packet on its way: with the segment routing header and these Segments Left, or without that header
abbrev pub on_way : Tunnel → Bool → ℕ → ℕ → ℕ → Packet
on_way t routed left hop destination =
    record {
      traffic_class = t.encapsulation.traffic_class;
      flow_label = t.encapsulation.flow_label;
      next_header = if routed then routing else inner_kind t.inner;
      hop_limit = hop;
      source = t.encapsulation.source;
      destination = destination;
      payload = if routed then srh_spelling (header_with t left) ++ t.bytes else t.bytes;
    }

-- where the packet inside stands, counted from the packet's first byte
abbrev pub inner_at : Tunnel → Bool → ℕ
inner_at t routed =
    if routed then header_len + SEGMENT_LIST_AT + SEGMENT_LEN * length (segment_list t.encapsulation) else header_len

-- the packet at a place: Segments Left counts the containers after
abbrev pub form : Tunnel → ListPlace → Bool → ℕ → Packet
form t x routed hop = on_way t routed (length (behind_of x)) hop (destination_of x)

-- whether the segment routing header is there after the step from a place to the next: a shift leaves it, and another step takes it out
-- with PSP where it may lack there (RFC 8986 section 4.16.1)
abbrev pub stays_routed : Bool → ListPlace → ListPlace → Bool → Bool
stays_routed psp x y routed = if shifts_in x then routed else not (psp && may_lack y)

-- ---- the rules of lists at a place

-- in a full container: it keeps the rules from the active SID on, and so do the containers after; and all SIDs are as in a flat network
pub record IsInFull (s : ListSid) (ss : List ListSid) (cs : List Container) : Type 0 where
  pub container : IsFull s ss
  pub behind : Follow (asked_behind (last_of s ss)) cs
  pub flat : All IsFlatSid (s ∷ ss)
  pub flat_behind : IsFlatList cs

-- in a REPLACE container: the whole of it keeps the rules, and so do the containers after
pub record IsInPacked (bs : List ListSid) (s : ListSid) (ss : List ListSid) (cs : List Container) : Type 0 where
  pub block : SidBlock
  pub own_block : s.block ≡ Some block
  pub kind : block.kind ≡ Replace
  pub container : IsPacked (Some block) (bs ++ s ∷ ss)
  pub behind : Follow (asked_behind_packed (Some block) (length (bs ++ s ∷ ss)) (last_of s ss)) cs
  pub flat : All IsFlatSid (bs ++ s ∷ ss)
  pub flat_behind : IsFlatList cs

-- a place in a legal list over SIDs of a flat network
abbrev pub IsPlace : ListPlace → Type 0
IsPlace (InFull s ss cs) = IsInFull s ss cs
IsPlace (InPacked bs s ss cs) = IsInPacked bs s ss cs

-- a REPLACE container's own value is read at its SIDs
abbrev pub own_of : ListPlace → List ℕ
own_of (InFull s ss cs) = []
own_of (InPacked bs s ss cs) = packed_value s.block (bs ++ s ∷ ss) ∷ []

-- the entries of a segment list at a place: the containers after, the last of them first, the place's own, and those in front
pub record IsListed (x : ListPlace) (entries : List ℕ) : Type 0 where
  pub front : List ℕ
  pub split : entries ≡ reverse (values_of (behind_of x)) ++ (own_of x ++ front)
  pub addresses : All (λ a. a < 2 ^ 128) entries

-- a SID of a node stands on the prefix of a list's SID: if it is compressed it is as the SIDs of the block are; if it goes on, its flavour
-- is the prefix's; and one of NEXT-CSID goes on
pub record StandsOn (e : SidEntry) (s : ListSid) : Type 0 where
  pub prefix : e.prefix ≡ s.prefix
  pub block_len : e.block_len ≡ block_len s.block
  pub kind : (e.csid ≡ Plain) ⊎ ((b : SidBlock) × (s.block ≡ Some b) × (e.csid ≡ b.kind))
  pub flavour : goes_on e ≡ true → e.csid ≡ s.csid
  pub next : e.csid ≡ Next → goes_on e ≡ true

-- what comes of the packet where no segment is left: the packet inside is exposed, or it is the upper layer, with USP without the header
abbrev pub at_the_end : SidEntry → List ℕ → Tunnel → ListPlace → Bool → ℕ → Endpoint
at_the_end e allow t x routed hop =
    if exposes e (inner_kind t.inner) then Exposed t.inner t.bytes
    else if is_allowed allow (inner_kind t.inner) then Delivered (form t x (routed && not e.usp) hop)
    else Refused reasons.UpperLayer (inner_at t routed)

-- a packet of a tunnel with a hop limit stands at a place of its list
pub record Along (t : Tunnel) (x : ListPlace) (hop : ℕ) (p : Packet) : Type 0 where
  pub routed : Bool
  pub packet : p ≡ form t x routed hop
  pub place : IsPlace x
  pub listed : IsListed x (segment_list t.encapsulation)
  pub lacking : routed ≡ false → may_lack x ≡ true
