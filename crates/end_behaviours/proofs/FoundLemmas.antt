-- What is found at a header.
use Rattle.std.proofs.Common.{◌≡◌, ◌≢◌, ℕ, zero, suc, ◌+◌, ◌-◌, ◌<◌, ◌≤◌, Bool, true, false, ◌==◌, ◌&&◌, ◌||◌, not, if◌then◌else◌, [], length, slice_index, refl, sym, ap, subst, ◌∙◌, arith, inl, inr}
use Rattle.std.specs.Prelude.{Option, Some, None, IfSome}
use Rattle.std.proofs.lemmas.Bool.{cases_Bool, and_parts, eq-eqb, eqb-false, eqb-true, ne_eqb}
use Rattle.srv6_rules.specs.declared.numbers.TheConstants.{MAX_PACKET_LEN}
use Rattle.srv6_rules.specs.declared.family.Family.TheVariants.{V6}
use Rattle.srv6_rules.specs.declared.reason.Reason.{Reason}
use Rattle.srv6_rules.specs.declared.reason.Reason.TheVariants.{UnknownRouting, LateHopByHop, Fragment}
use Rattle.srv6_rules.specs.declared.sid.SidEntry.{SidEntry}
use Rattle.srv6_rules.specs.Behaviours.{goes_on}
use Rattle.srv6_rules.specs.Packet.{Packet, spelling}
use Rattle.srv6_rules.specs.Areas as areas
use Rattle.srv6_rules.specs.Areas.{options_fault}
use Rattle.srv6_rules.specs.Srh.{segment_routing, srh_of}
use Rattle.srv6_rules.specs.Chain.{ChainPlace, Header, destination_options, fragment, hop_by_hop, is_first, is_segment_routing, routing, routing_type, segments_left}
use Rattle.srv6_rules.specs.ChainTerms.{LiesIn, StandsIn, place_behind}
use Rattle.srv6_rules.specs.CompressedSteps.{ReplaceStep, AtEnd, compression_of, is_at_end, is_ended, is_replace, lacks_entry, replace_step}
use Rattle.srv6_rules.specs.Endpoint.{Endpoint, Exposed, Refused, after_last, at_header, at_header_by, at_segment_routing, at_sid_routing, by_replace_step, is_options, next_csid, outcome_without, shifts_at, unknown_routing, unless_fault}
use Rattle.srv6_rules.proofs.PublicLaws.{at_header_known, at_header_routing, first_passed, fragment_refused, known_packed, known_whole, late_refused, lies_spelled, options_judged, options_fault_within, packed_last, packed_steps, unknown_passed, unknown_refused, whole_last}
use Rattle.ip6_headers.specs.declared.areas.Fault.{Fault}
use Rattle.endpoint_chain.specs.ChainJudging.{IsHeaderFault}
use Rattle.end_behaviours.specs.declared.end_headers.Found.{Found}
use Rattle.end_behaviours.specs.HeaderFinding.{IsFound, IsLast, IsStep, LiesAt, header_of, is_last}

pub found_same : (s : SidEntry) (p : Packet) (first : ℕ) (rest : ChainPlace → Endpoint) (e f : Endpoint) (found : Found) → e ≡ f
    → IsFound s p first rest f found → IsFound s p first rest e found
found_same s p first rest e f found same is =
    let P : Endpoint → Type 0 = λ x. IsFound s p first rest x found in subst P (sym same) is

-- ---- where a header lies

module _ (p : Packet) (h : Header) (lies : LiesIn p h) where
  pub same_header : h ≡ header_of p h.place (length h.bytes)
  same_header = ap (λ xs. record { place = h.place; bytes = xs }) lies.bytes

  -- what stands after it
  pub stands_behind : StandsIn p (place_behind h)
  stands_behind =
      let start = lies.behind_header in
      let within = lies.within in
      let least = lies.least in
      let first : h.place.at + 0 ≡ h.place.at = omega arith in
      record {
        behind_header = omega arith;
        within = within;
        earlier = omega arith;
        field = inr start;
        named = ap (slice_index (spelling p)) (sym first) ∙ sym (lies_spelled p h 0 lies (omega arith));
      }

  pub lies_there : (first : ℕ) → StandsIn p h.place → is_segment_routing h ≡ true → first ≤ h.place.at
      → LiesAt p first h.place (length h.bytes)
  lies_there first stands known later =
      let P : Header → Type 0 = λ x. LiesIn p x in
      let Q : Header → Type 0 = λ x. is_segment_routing x ≡ true in
      record {
        lies = subst P same_header lies;
        long = ap (λ (x : Header). length x.bytes) (sym same_header);
        stands = stands;
        later = later;
        routing = subst Q same_header known;
      }

-- ---- a segment routing header

module _ (s : SidEntry) (p : Packet) (h : Header) where
  ends_by : (lacks end : Bool) (dropped more : ReplaceStep) → (not lacks && end) ≡ true
      → (if lacks then dropped else if end then AtEnd else more) ≡ AtEnd
  ends_by true end dropped more e = cc
  ends_by false true dropped more e = refl
  ends_by false false dropped more e = cc

  ends : is_at_end (compression_of s) (srh_of h.bytes) p.destination ≡ true
      → replace_step (compression_of s) p h.place.at (srh_of h.bytes) ≡ AtEnd
  ends e =
      ends_by (lacks_entry (compression_of s) (srh_of h.bytes) p.destination)
      (is_ended (compression_of s) (srh_of h.bytes) (srh_of h.bytes).segments_left p.destination) _ _ e

  packed_ends : (rest : Endpoint) → is_replace s.csid ≡ true
      → is_at_end (compression_of s) (srh_of h.bytes) p.destination ≡ true
      → at_segment_routing s p h rest ≡ after_last s h rest
  packed_ends rest packed end = known_packed s p h rest packed ∙ elim (cases_Bool (goes_on s)) [
    | inl goes ↦ packed_steps s p h rest goes ∙ ap (by_replace_step s h rest) (ends end)
    | inr stays ↦ packed_last s p h rest stays end
  ]

  whole_ends : (rest : Endpoint) → is_replace s.csid ≡ false → (segments_left h == 0) ≡ true
      → at_segment_routing s p h rest ≡ after_last s h rest
  whole_ends rest whole none = known_whole s p h rest whole ∙ whole_last s p h rest none

  -- one that is at its end
  at_end_law : (rest : Endpoint) → is_last s p h ≡ true → at_segment_routing s p h rest ≡ after_last s h rest
  at_end_law rest last = elim (cases_Bool (is_replace s.csid)) [
    | inl packed ↦ packed_ends rest packed (sym (by_kind packed) ∙ last)
    | inr whole ↦ whole_ends rest whole (sym (by_whole whole) ∙ last)
  ]
    where
      by_kind : is_replace s.csid ≡ true → is_last s p h ≡ is_at_end (compression_of s) (srh_of h.bytes) p.destination
      by_kind packed = rw packed refl

      by_whole : is_replace s.csid ≡ false → is_last s p h ≡ (segments_left h == 0)
      by_whole whole = rw whole refl

  module _ (unshifted : shifts_at s p ≡ false) (known : is_segment_routing h ≡ true) where
    header_at_end : (rest : Endpoint) → is_last s p h ≡ true → at_header s p h rest ≡ after_last s h rest
    header_at_end rest last = at_header_known s p h rest unshifted known ∙ at_end_law rest last

    pub found_passed : s.usp ≡ false → is_last s p h ≡ true → (rest : Endpoint) → at_header s p h rest ≡ rest
    found_passed no_usp last rest = header_at_end rest last ∙ rw no_usp refl

    pub found_step : (first : ℕ) (behind : Endpoint) → LiesIn p h → StandsIn p h.place → first ≤ h.place.at → is_last s p h ≡ false
        → IsStep s p first (at_header s p h behind) h.place (length h.bytes)
    found_step first behind lies stands later more =
        let same = same_header p h lies in
        let P : Header → Type 0 = λ x. is_last s p x ≡ false in
        record {
          header = lies_there p h lies first stands known later;
          more = subst P same more;
          behind = behind;
          is = at_header_known s p h behind unshifted known ∙ ap (λ x. at_segment_routing s p x behind) same;
        }

    pub found_last : (first : ℕ) (rest : ChainPlace → Endpoint) (next : ChainPlace) → LiesIn p h → StandsIn p h.place
        → first ≤ h.place.at → s.usp ≡ true → is_last s p h ≡ true → next ≡ place_behind h
        → IsLast p first rest (at_header s p h (rest (place_behind h))) h.place next
    found_last first rest next lies stands later usp last goes =
        let at : next.at ≡ h.place.at + length h.bytes = ap (λ k. k.at) goes in
        let len : length h.bytes ≡ next.at - h.place.at = omega arith in
        let same : h ≡ header_of p h.place (next.at - h.place.at) = same_header p h lies ∙ ap (header_of p h.place) len in
        let P : ℕ → Type 0 = λ n. LiesAt p first h.place n in
        let Q : ChainPlace → Type 0 = λ k. StandsIn p k in
        let out : after_last s h (rest (place_behind h)) ≡ outcome_without h (rest (place_behind h)) = rw usp refl in
        record {
          header = subst P len (lies_there p h lies first stands known later);
          goes = goes ∙ ap place_behind same;
          stands = subst Q (sym goes) (stands_behind p h lies);
          is = header_at_end (rest (place_behind h)) last ∙ out
              ∙ ap (λ x. outcome_without x (rest (place_behind h))) same
              ∙ ap (λ k. outcome_without (header_of p h.place (next.at - h.place.at)) (rest k)) (sym goes);
        }

-- ---- any other header

-- a routing header of another type
pub routing_unknown : (s : SidEntry) (p : Packet) (h : Header) (rest : Endpoint) → shifts_at s p ≡ false → h.place.kind ≡ routing
    → routing_type h ≢ segment_routing → at_header s p h rest ≡ unknown_routing h rest
routing_unknown s p h rest unshifted kind other =
    let k : (h.place.kind == routing) ≡ true = eq-eqb h.place.kind routing kind in
    let t : (routing_type h == segment_routing) ≡ false = ne_eqb (routing_type h) segment_routing other in
    at_header_routing s p h rest unshifted kind ∙ rw (k, t) refl

-- where the SID does not shift in front of it
pub header_unshifted : (s : SidEntry) (p : Packet) (h : Header) (rest : Endpoint) → (shifts_at s p && not (is_options h)) ≡ false
    → at_header s p h rest ≡ at_header_by (at_sid_routing s p) h rest
header_unshifted s p h rest not_here = rw not_here refl

-- where it does
pub header_shifts : (s : SidEntry) (p : Packet) (h : Header) → (shifts_at s p && not (is_options h)) ≡ true
    → (shifts_at s p ≡ true) × ((rest : Endpoint) → at_header s p h rest ≡ next_csid s p)
header_shifts s p h here = ((and_parts (shifts_at s p) (not (is_options h)) here).0, λ rest. rw here refl)

-- a routing header has no options
pub routing_shifts : (s : SidEntry) (p : Packet) (h : Header) → (shifts_at s p && not (is_options h)) ≡ false → h.place.kind ≡ routing
    → shifts_at s p ≡ false
routing_shifts s p h here kind =
    let none : is_options h ≡ false = rw kind refl in
    none_by (shifts_at s p) (is_options h) here none
  where
    none_by : (a b : Bool) → (a && not b) ≡ false → b ≡ false → a ≡ false
    none_by true true e f = cc
    none_by true false e f = cc
    none_by false b e f = refl

-- ---- the place of a fault

refused_at : (r1 r2 : Reason) (a b : ℕ) → Refused r1 a ≡ Refused r2 b → a ≡ b
refused_at r1 r2 a b e = cc

abbrev some_outcome : Endpoint
some_outcome = Exposed V6 []

some_left : (n : ℕ) → (n ≡ 0 → ⊥) → 0 < n
some_left zero none = absurd (none refl)
some_left (suc n) none = omega arith

pub unknown_near : (h : Header) (fault : Option Fault) → 8 ≤ length h.bytes → h.place.at + length h.bytes ≤ MAX_PACKET_LEN
    → IsHeaderFault (unknown_routing h) fault → IfSome fault (λ f. f.at ≤ MAX_PACKET_LEN)
unknown_near h None least fits is = tt
unknown_near h (Some f) least fits is = elim (cases_Bool (segments_left h == 0)) [
  | inl none ↦
      let passed = unknown_passed h (eqb-true (segments_left h) 0 none) some_outcome in
      let bad : some_outcome ≡ Refused f.reason f.at = sym passed ∙ is some_outcome in
      cc
  | inr some ↦
      let more = eqb-false (segments_left h) 0 some in
      let left : 0 < segments_left h = some_left (segments_left h) more in
      let at = refused_at UnknownRouting f.reason (h.place.at + 2) f.at (sym (unknown_refused h some_outcome left) ∙ is some_outcome) in
      omega arith
]

module _ (route : Header → Endpoint → Endpoint) (p : Packet) (h : Header) (f : Fault) (lies : LiesIn p h) (stands : StandsIn p h.place)
    (fits : h.place.at + length h.bytes ≤ MAX_PACKET_LEN)
    (is : at_header_by route h some_outcome ≡ Refused f.reason f.at) where
  options_near : (found : Option areas.Fault) → options_fault h ≡ found → unless_fault found some_outcome ≡ Refused f.reason f.at
      → f.at ≤ MAX_PACKET_LEN
  options_near None e bad = cc
  options_near (Some g) e bad =
      let within = options_fault_within p h g lies e in
      let at = refused_at g.reason f.reason g.at f.at bad in
      omega arith

  hop_by_hop_near : h.place.kind ≡ hop_by_hop → f.at ≤ MAX_PACKET_LEN
  hop_by_hop_near kind = elim (cases_Bool (is_first h.place)) [
    | inl first ↦ let bad : some_outcome ≡ Refused f.reason f.at = sym (first_passed route h kind first some_outcome) ∙ is in cc
    | inr late ↦
        let earlier = stands.earlier in
        let at = refused_at LateHopByHop f.reason h.place.named_at f.at (sym (late_refused route h some_outcome kind late) ∙ is) in
        omega arith
  ]

  kind_near : (a b c d : Bool) → (h.place.kind == hop_by_hop) ≡ a → (h.place.kind == routing) ≡ b → (h.place.kind == fragment) ≡ c
      → (h.place.kind == destination_options) ≡ d → (a || (b || (c || d))) ≡ true → h.place.kind ≢ routing → f.at ≤ MAX_PACKET_LEN
  kind_near true b c d ea eb ec ed some other = hop_by_hop_near (eqb-true h.place.kind hop_by_hop ea)
  kind_near false true c d ea eb ec ed some other = absurd (other (eqb-true h.place.kind routing eb))
  kind_near false false true d ea eb ec ed some other =
      let kind = eqb-true h.place.kind fragment ec in
      let at = refused_at Fragment f.reason h.place.at f.at (sym (fragment_refused route h some_outcome kind) ∙ is) in
      omega arith
  kind_near false false false true ea eb ec ed some other =
      let kind = eqb-true h.place.kind destination_options ed in
      options_near (options_fault h) refl (sym (options_judged route h some_outcome kind) ∙ is)
  kind_near false false false false ea eb ec ed some other = cc

pub other_near : (route : Header → Endpoint → Endpoint) (p : Packet) (h : Header) (fault : Option Fault) → LiesIn p h
    → StandsIn p h.place → h.place.at + length h.bytes ≤ MAX_PACKET_LEN → h.place.kind ≢ routing
    → IsHeaderFault (at_header_by route h) fault → IfSome fault (λ f. f.at ≤ MAX_PACKET_LEN)
other_near route p h None lies stands fits other is = tt
other_near route p h (Some f) lies stands fits other is =
    kind_near route p h f lies stands fits (is some_outcome) (h.place.kind == hop_by_hop) (h.place.kind == routing)
    (h.place.kind == fragment) (h.place.kind == destination_options) refl refl refl refl lies.extension other
