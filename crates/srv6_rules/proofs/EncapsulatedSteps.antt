-- What SIDs do with a packet in an outer header.
use Rattle.std.proofs.Common.{◌≡◌, ◌⊎◌, ℕ, ◌+◌, ◌-◌, ◌^◌, ◌<◌, ◌≤◌, true, false, not, if◌then◌else◌, List, ◌++◌, length, drop, slice_index, All, refl, sym, ap, ◌∙◌, arith, inl, inr}
use Rattle.std.proofs.lemmas.Bool.{cases_Bool}
use Rattle.std.proofs.lemmas.List.{drop_at, take_at}
use Rattle.srv6_rules.specs.declared.family.Family.TheVariants as families
use Rattle.srv6_rules.specs.declared.reason.Reason.TheVariants as reasons
use Rattle.srv6_rules.specs.declared.sid.Csid.TheVariants as csids
use Rattle.srv6_rules.specs.declared.sid.SidEntry.{SidEntry}
use Rattle.srv6_rules.specs.Behaviours.{goes_on, exposes, ipv6_inside}
use Rattle.srv6_rules.specs.Packet.{Packet, header_len}
use Rattle.srv6_rules.specs.Srh.{Srh, srh_of, srh_spelling, segments_left_at}
use Rattle.srv6_rules.specs.Chain.{ChainPlace, Chain, routing, without}
use Rattle.srv6_rules.specs.Endpoint.{Endpoint, Onward, Exposed, Delivered, Refused, upper_layer, is_allowed, as_in, outcome_without, after_step, after_last, next_segment, over_headers, at_header, at_last_upper, at_upper, at_end, at_sid}
use Rattle.srv6_rules.specs.Encapsulation.{Encapsulation, has_segment_routing, segment_routing_of, outer, at_segment}
use Rattle.srv6_rules.specs.EncapsulationTerms.{header_of, inner_place, bare, bare_place}
use Rattle.srv6_rules.proofs.Treatments.{last_stays, last_out}
use Rattle.srv6_rules.proofs.HeadersAtSids.{plain_whole, at_header_last, at_header_after_step, at_header_steps, at_header_pops, at_header_refuses}
use Rattle.srv6_rules.proofs.Endpoints.{after_step_refused}
use Rattle.srv6_rules.proofs.Encapsulations.{outer_start, bare_upper, step_onward, step_hop_limit, no_tlv_bytes, good_segments, read_back, list_most, more_routing, next_entry, framed, outer_routed, outer_inner, outer_headers, outer_chain_law}

-- ---- the segment routing header taken out

-- the header as it stands in the packet, whatever Segments Left was
as_in_framed : (e : Encapsulation) (inner : List ℕ) (was left hop destination : ℕ)
    → as_in (framed e routing (srh_spelling (segment_routing_of e left) ++ inner) hop destination) (header_of e was) ≡ header_of e left
as_in_framed e inner was left hop destination =
    ap (λ xs. record { place = outer_start routing; bytes = xs })
    (take_at (srh_spelling (segment_routing_of e left)) inner (length (srh_spelling (segment_routing_of e was))) refl)

without_framed : (e : Encapsulation) (inner : List ℕ) (was left hop destination : ℕ)
    → let p = framed e routing (srh_spelling (segment_routing_of e left) ++ inner) hop destination in
    without p (as_in p (header_of e was)) ≡ bare e inner hop destination
without_framed e inner was left hop destination =
    let header : List ℕ = srh_spelling (segment_routing_of e left) in
    let p : Packet = framed e routing (header ++ inner) hop destination in
    let size : header_len - header_len + length header ≡ length header = omega arith in
    ap (without p) (as_in_framed e inner was left hop destination)
    ∙ ap (λ n. bare e (drop n (header ++ inner)) hop destination) size
    ∙ ap (λ xs. bare e xs hop destination) (drop_at header inner (length header) refl)

-- ---- at a plain SID

-- it does not shift
pub upper_plain : (s : SidEntry) (allow : List ℕ) (p : Packet) (place : ChainPlace) → s.csid ≡ csids.Plain
    → at_upper s allow p place ≡ at_last_upper s allow p place
upper_plain s allow p place plain = rw plain refl

module _ (s : SidEntry) (plain : s.csid ≡ csids.Plain) (allow : List ℕ) (e : Encapsulation) (inner : List ℕ)
    (left hop destination : ℕ) where
  outer_at_sid : at_sid s allow (outer e inner left hop destination)
      ≡ over_headers (at_header s (outer e inner left hop destination)) (outer_headers e left (has_segment_routing e))
      (at_upper s allow (outer e inner left hop destination) (inner_place e))
  outer_at_sid =
      let p : Packet = outer e inner left hop destination in
      ap (λ (c : Chain). over_headers (at_header s p) c.headers (at_end s allow p c.end)) (outer_chain_law e inner left hop destination)

  outer_at_header : has_segment_routing e ≡ true → at_sid s allow (outer e inner left hop destination)
      ≡ at_header s (outer e inner left hop destination) (header_of e left)
      (at_upper s allow (outer e inner left hop destination) (inner_place e))
  outer_at_header has =
      let p : Packet = outer e inner left hop destination in
      let end : Endpoint = at_upper s allow p (inner_place e) in
      outer_at_sid ∙ ap (λ b. over_headers (at_header s p) (outer_headers e left b) end) has

  outer_alone : has_segment_routing e ≡ false → at_sid s allow (outer e inner left hop destination)
      ≡ at_upper s allow (outer e inner left hop destination) (inner_place e)
  outer_alone not =
      let p : Packet = outer e inner left hop destination in
      let end : Endpoint = at_upper s allow p (inner_place e) in
      outer_at_sid ∙ ap (λ b. over_headers (at_header s p) (outer_headers e left b) end) not

  -- with no segments left the packet inside is the upper layer
  outer_last : left ≡ 0 → has_segment_routing e ≡ true → at_sid s allow (outer e inner left hop destination)
      ≡ after_last s (header_of e left) (at_upper s allow (outer e inner left hop destination) (inner_place e))
  outer_last none has =
      let p : Packet = outer e inner left hop destination in
      outer_at_header has ∙ at_header_last s p (header_of e left) (at_upper s allow p (inner_place e)) (plain_whole s p plain) refl none

  pub outer_at_upper : left ≡ 0 → s.usp ≡ false → at_sid s allow (outer e inner left hop destination)
      ≡ at_upper s allow (outer e inner left hop destination) (inner_place e)
  outer_at_upper none no_usp =
      let p : Packet = outer e inner left hop destination in
      elim (cases_Bool (has_segment_routing e)) [
        | inl has ↦ outer_last none has ∙ last_stays s p (header_of e left) (at_upper s allow p (inner_place e)) no_usp
        | inr not ↦ outer_alone not
      ]

  pub outer_upper_layer : left ≡ 0 → s.usp ≡ false → exposes s ipv6_inside ≡ false
      → at_sid s allow (outer e inner left hop destination)
      ≡ upper_layer allow (outer e inner left hop destination) (inner_place e)
  outer_upper_layer none no_usp keeps =
      outer_at_upper none no_usp ∙ upper_plain s allow (outer e inner left hop destination) (inner_place e) plain ∙ rw keeps refl

  -- with USP it is handed over without the header
  pub outer_usp : left ≡ 0 → has_segment_routing e ≡ true → s.usp ≡ true → exposes s ipv6_inside ≡ false
      → at_sid s allow (outer e inner left hop destination)
      ≡ (if is_allowed allow ipv6_inside then Delivered (bare e inner hop destination)
      else Refused reasons.UpperLayer (inner_place e).at)
  outer_usp none has usp keeps =
      let p : Packet = outer e inner left hop destination in
      let upper : at_upper s allow p (inner_place e) ≡ upper_layer allow p (inner_place e) =
      upper_plain s allow p (inner_place e) plain ∙ rw keeps refl in
      outer_last none has
      ∙ last_out s p (header_of e left) (at_upper s allow p (inner_place e)) usp
      ∙ ap (outcome_without (header_of e left)) upper
      ∙ elim (cases_Bool (is_allowed allow ipv6_inside)) [
        | inl takes ↦ rw takes (ap (λ (x : Packet). Delivered (without x (as_in x (header_of e left))))
            (outer_routed e inner left hop destination has)
            ∙ ap (λ (x : Packet). Delivered x) (without_framed e inner left left hop destination))
        | inr not ↦ rw not refl
      ]

  -- a SID that exposes it exposes the inner bytes, whether the header is taken out or not
  pub outer_exposed : left ≡ 0 → exposes s ipv6_inside ≡ true
      → at_sid s allow (outer e inner left hop destination) ≡ Exposed families.V6 inner
  outer_exposed none shows =
      let p : Packet = outer e inner left hop destination in
      let upper : at_upper s allow p (inner_place e) ≡ Exposed families.V6 inner =
      upper_plain s allow p (inner_place e) plain ∙ rw shows (ap (Exposed families.V6) (outer_inner e inner left hop destination)) in
      elim (cases_Bool (has_segment_routing e)) [
        | inl has ↦ outer_last none has ∙ ap (after_last s (header_of e left)) upper ∙ elim (cases_Bool s.usp) [
          | inl usp ↦ last_out s p (header_of e left) (Exposed families.V6 inner) usp
          | inr no_usp ↦ last_stays s p (header_of e left) (Exposed families.V6 inner) no_usp
        ]
        | inr not ↦ outer_alone not ∙ upper
      ]

  -- a SID that does not go on takes no segment routing header with segments left
  pub outer_bad_segments : has_segment_routing e ≡ true → 0 < left → goes_on s ≡ false
      → at_sid s allow (outer e inner left hop destination) ≡ Refused reasons.BadSegments (header_len + segments_left_at)
  outer_bad_segments has some stays =
      let p : Packet = outer e inner left hop destination in
      let end : Endpoint = at_upper s allow p (inner_place e) in
      outer_at_header has ∙ at_header_refuses s p (header_of e left) end (plain_whole s p plain) refl some stays

  outer_next : has_segment_routing e ≡ true
      → next_segment (outer e inner left hop destination) header_len (srh_of (header_of e left).bytes)
      ≡ next_segment (framed e routing (srh_spelling (segment_routing_of e left) ++ inner) hop destination) header_len
      (segment_routing_of e left)
  outer_next has =
      ap (next_segment (outer e inner left hop destination) header_len) (read_back e left)
      ∙ ap (λ (x : Packet). next_segment x header_len (segment_routing_of e left)) (outer_routed e inner left hop destination has)

  pub outer_hop_limit : has_segment_routing e ≡ true → 0 < left → goes_on s ≡ true → hop ≤ 1
      → at_sid s allow (outer e inner left hop destination) ≡ Refused reasons.HopLimit 0
  outer_hop_limit has some goes low =
      let p : Packet = outer e inner left hop destination in
      outer_at_header has
      ∙ at_header_after_step s p (header_of e left) (at_upper s allow p (inner_place e)) (plain_whole s p plain) refl some goes
      ∙ ap (after_step s (header_of e left)) (outer_next has
      ∙ step_hop_limit (framed e routing (srh_spelling (segment_routing_of e left) ++ inner) hop destination) header_len
      (segment_routing_of e left) low)
      ∙ after_step_refused s (header_of e left) reasons.HopLimit 0

  -- the step makes the next segment the active one
  outer_stepped : has_segment_routing e ≡ true → 0 < left → left < length e.segments → All (λ a. a < 2 ^ 128) e.segments → 1 < hop
      → next_segment (outer e inner left hop destination) header_len (srh_of (header_of e left).bytes)
      ≡ Onward (framed e routing (srh_spelling (segment_routing_of e (left - 1)) ++ inner) (hop - 1)
      (slice_index e.segments (length e.segments - left)))
  outer_stepped has some below all high =
      let most = list_most e in
      let header : Srh = segment_routing_of e left in
      let p : Packet = framed e routing (srh_spelling header ++ inner) hop destination in
      let entry = next_entry e left some below all in
      outer_next has
      ∙ step_onward p header_len header high (good_segments e left (omega arith) (omega arith)) (no_tlv_bytes e left (omega arith))
      ∙ ap (λ a. Onward (framed e routing (srh_spelling (segment_routing_of e (left - 1)) ++ inner) (hop - 1) a)) entry

  -- a SID that goes on makes it so, and without PSP that is all, with PSP too where segments are left
  pub outer_onward : has_segment_routing e ≡ true → 0 < left → goes_on s ≡ true → (s.psp ≡ false) ⊎ (1 < left)
      → left < length e.segments → All (λ a. a < 2 ^ 128) e.segments → 1 < hop
      → at_sid s allow (outer e inner left hop destination)
      ≡ Onward (outer e inner (left - 1) (hop - 1) (slice_index e.segments (length e.segments - left)))
  outer_onward has some goes stays below all high =
      let p : Packet = outer e inner left hop destination in
      outer_at_header has
      ∙ at_header_steps s p (header_of e left) (at_upper s allow p (inner_place e)) (plain_whole s p plain) refl some goes stays
      ∙ outer_stepped has some below all high
      ∙ ap (λ (x : Packet). Onward x)
      (sym (outer_routed e inner (left - 1) (hop - 1) (slice_index e.segments (length e.segments - left)) has))

  -- with PSP the header is taken out where none is left
  pub outer_psp : has_segment_routing e ≡ true → left ≡ 1 → goes_on s ≡ true → s.psp ≡ true → left < length e.segments
      → All (λ a. a < 2 ^ 128) e.segments → 1 < hop
      → at_sid s allow (outer e inner left hop destination)
      ≡ Onward (bare e inner (hop - 1) (slice_index e.segments (length e.segments - left)))
  outer_psp has one goes psp below all high =
      let p : Packet = outer e inner left hop destination in
      outer_at_header has
      ∙ at_header_pops s p (header_of e left) (at_upper s allow p (inner_place e)) (plain_whole s p plain) refl one goes psp
      ∙ ap (outcome_without (header_of e left)) (outer_stepped has (omega arith) below all high)
      ∙ ap (λ (x : Packet). Onward x)
      (without_framed e inner left (left - 1) (hop - 1) (slice_index e.segments (length e.segments - left)))

module _ (s : SidEntry) (plain : s.csid ≡ csids.Plain) (allow : List ℕ) (e : Encapsulation) (inner : List ℕ) (hop destination : ℕ) where
  -- a packet without the header has the packet inside as its upper layer
  bare_at_sid : at_sid s allow (bare e inner hop destination) ≡ at_upper s allow (bare e inner hop destination) bare_place
  bare_at_sid =
      let p : Packet = bare e inner hop destination in
      ap (λ (c : Chain). over_headers (at_header s p) c.headers (at_end s allow p c.end)) (bare_upper p refl)

  pub bare_exposed : exposes s ipv6_inside ≡ true → at_sid s allow (bare e inner hop destination) ≡ Exposed families.V6 inner
  bare_exposed shows = bare_at_sid ∙ upper_plain s allow (bare e inner hop destination) bare_place plain ∙ rw shows refl

  pub bare_upper_layer : exposes s ipv6_inside ≡ false
      → at_sid s allow (bare e inner hop destination) ≡ upper_layer allow (bare e inner hop destination) bare_place
  bare_upper_layer keeps = bare_at_sid ∙ upper_plain s allow (bare e inner hop destination) bare_place plain ∙ rw keeps refl

-- ---- while a segment is the active one

module _ (s : SidEntry) (plain : s.csid ≡ csids.Plain) (allow : List ℕ) (e : Encapsulation) (inner : List ℕ) (i hop : ℕ) where
  pub at_segment_onward : goes_on s ≡ true → (s.psp ≡ false) ⊎ (i + 2 < length e.segments) → i + 1 < length e.segments
      → All (λ a. a < 2 ^ 128) e.segments → 1 < hop
      → at_sid s allow (at_segment e inner i hop) ≡ Onward (at_segment e inner (i + 1) (hop - 1))
  at_segment_onward goes stays below all high =
      let n : ℕ = length e.segments in
      let more : (s.psp ≡ false) ⊎ (1 < n - 1 - i) = elim stays [ inl no_psp ↦ inl no_psp | inr far ↦ inr (omega arith) ] in
      let left : n - 1 - i - 1 ≡ n - 1 - (i + 1) = omega arith in
      let next : n - (n - 1 - i) ≡ i + 1 = omega arith in
      outer_onward s plain allow e inner (n - 1 - i) hop (slice_index e.segments i) (more_routing e (omega arith)) (omega arith) goes
      more (omega arith) all high
      ∙ ap (λ k. Onward (outer e inner k (hop - 1) (slice_index e.segments (n - (n - 1 - i))))) left
      ∙ ap (λ k. Onward (outer e inner (n - 1 - (i + 1)) (hop - 1) (slice_index e.segments k))) next

  -- with PSP the header is taken out on the way to the last segment
  pub at_segment_psp : goes_on s ≡ true → s.psp ≡ true → i + 2 ≡ length e.segments → All (λ a. a < 2 ^ 128) e.segments → 1 < hop
      → at_sid s allow (at_segment e inner i hop) ≡ Onward (bare e inner (hop - 1) (slice_index e.segments (i + 1)))
  at_segment_psp goes psp last all high =
      let n : ℕ = length e.segments in
      let next : n - (n - 1 - i) ≡ i + 1 = omega arith in
      outer_psp s plain allow e inner (n - 1 - i) hop (slice_index e.segments i) (more_routing e (omega arith)) (omega arith) goes psp
      (omega arith) all high
      ∙ ap (λ k. Onward (bare e inner (hop - 1) (slice_index e.segments k))) next

  pub at_segment_hop_limit : goes_on s ≡ true → i + 1 < length e.segments → hop ≤ 1
      → at_sid s allow (at_segment e inner i hop) ≡ Refused reasons.HopLimit 0
  at_segment_hop_limit goes below low =
      outer_hop_limit s plain allow e inner (length e.segments - 1 - i) hop (slice_index e.segments i) (more_routing e (omega arith))
      (omega arith) goes low

  pub at_segment_bad_segments : goes_on s ≡ false → i + 1 < length e.segments
      → at_sid s allow (at_segment e inner i hop) ≡ Refused reasons.BadSegments (header_len + segments_left_at)
  at_segment_bad_segments stays below =
      outer_bad_segments s plain allow e inner (length e.segments - 1 - i) hop (slice_index e.segments i) (more_routing e (omega arith))
      (omega arith) stays

  pub at_segment_upper_layer : s.usp ≡ false → exposes s ipv6_inside ≡ false → i + 1 ≡ length e.segments
      → at_sid s allow (at_segment e inner i hop)
      ≡ upper_layer allow (at_segment e inner i hop) (inner_place e)
  at_segment_upper_layer no_usp keeps last =
      outer_upper_layer s plain allow e inner (length e.segments - 1 - i) hop (slice_index e.segments i) (omega arith) no_usp keeps

  pub at_segment_usp : s.usp ≡ true → has_segment_routing e ≡ true → exposes s ipv6_inside ≡ false → i + 1 ≡ length e.segments
      → at_sid s allow (at_segment e inner i hop)
      ≡ (if is_allowed allow ipv6_inside then Delivered (bare e inner hop (slice_index e.segments i))
      else Refused reasons.UpperLayer (inner_place e).at)
  at_segment_usp usp has keeps last =
      outer_usp s plain allow e inner (length e.segments - 1 - i) hop (slice_index e.segments i) (omega arith) has usp keeps

  pub at_segment_exposed : exposes s ipv6_inside ≡ true → i + 1 ≡ length e.segments
      → at_sid s allow (at_segment e inner i hop) ≡ Exposed families.V6 inner
  at_segment_exposed shows last =
      outer_exposed s plain allow e inner (length e.segments - 1 - i) hop (slice_index e.segments i) (omega arith) shows
