-- What comes of a header by its kind: passed over, refused at a place, or stepped over.
use Rattle.std.proofs.Common.{◌≡◌, ℕ, ◌+◌, ◌<◌, ◌≤◌, Bool, true, false, ◌==◌, ◌&&◌, if◌then◌else◌, length, refl, sym, ap, subst, ◌∙◌, ◌⊎◌, arith, inl, inr}
use Rattle.std.specs.Prelude.{Option, Some, None}
use Rattle.std.proofs.lemmas.Bool.{cases_Bool, eq-eqb, ne_eqb, eqb-true}
use Rattle.srv6_rules.specs.declared.reason.Reason.{Reason}
use Rattle.srv6_rules.specs.declared.reason.Reason.TheVariants as reasons
use Rattle.srv6_rules.specs.declared.sid.SidEntry.{SidEntry}
use Rattle.srv6_rules.specs.Behaviours.{goes_on}
use Rattle.srv6_rules.specs.Packet.{Packet}
use Rattle.srv6_rules.specs.Srh.{srh_of, segments_left_at, routing_type_at}
use Rattle.srv6_rules.specs.Areas.{Fault, options_fault}
use Rattle.srv6_rules.specs.Chain.{Header, hop_by_hop, routing, fragment, destination_options, is_first, segments_left, is_segment_routing}
use Rattle.srv6_rules.specs.ChainTerms.{LiesIn, StandsIn}
use Rattle.srv6_rules.specs.CompressedSteps.{ReplaceStep, Moved, AtEnd, Dropped, compression_of, is_replace, is_at_end, replace_step}
use Rattle.srv6_rules.specs.Endpoint.{Endpoint, Refused, unless_fault, next_segment, is_options, at_whole_segments, at_packed_segments, by_replace_step, at_segment_routing, unknown_routing, at_header_by, at_sid_routing, outcome_without, after_step, after_last, leaves_none}
use Rattle.srv6_rules.specs.EndpointTerms.{IsPassed, Decides}
use Rattle.srv6_rules.proofs.SteppedPackets.{step_at_end, at_end_none}
use Rattle.srv6_rules.proofs.AreaItems.{options_fault_within}

-- ---- a fault, or else what comes after

-- there is no fault, or one
pub fault_cases : (f : Option Fault) → (f ≡ None) ⊎ ((x : Fault) × (f ≡ Some x))
fault_cases None = inl refl
fault_cases (Some x) = inr (x, refl)

-- ---- each kind, whatever is done with routing headers

module _ (route : Header → Endpoint → Endpoint) (h : Header) where
  by_first : (rest : Endpoint) → (h.place.kind == hop_by_hop) ≡ true → is_first h.place ≡ true → at_header_by route h rest ≡ rest
  by_first rest e first = rw (e, first) refl

  by_late : (rest : Endpoint) → (h.place.kind == hop_by_hop) ≡ true → is_first h.place ≡ false
      → at_header_by route h rest ≡ Refused reasons.LateHopByHop h.place.named_at
  by_late rest e late = rw (e, late) refl

  by_options : (rest : Endpoint) → (h.place.kind == hop_by_hop) ≡ false → (h.place.kind == destination_options) ≡ true
      → at_header_by route h rest ≡ unless_fault (options_fault h) rest
  by_options rest e is = rw (e, is) refl

  by_fragment : (rest : Endpoint) → (h.place.kind == hop_by_hop) ≡ false → (h.place.kind == destination_options) ≡ false
      → (h.place.kind == fragment) ≡ true → at_header_by route h rest ≡ Refused reasons.Fragment h.place.at
  by_fragment rest e d is = rw (e, d, is) refl

  by_other : (rest : Endpoint) → (h.place.kind == hop_by_hop) ≡ false → (h.place.kind == destination_options) ≡ false
      → (h.place.kind == fragment) ≡ false → at_header_by route h rest ≡ route h rest
  by_other rest e d f = rw (e, d, f) refl

  -- Hop-by-Hop Options that the IPv6 header names are passed over, and others refused
  pub first_passed : h.place.kind ≡ hop_by_hop → is_first h.place ≡ true → IsPassed (at_header_by route) h
  first_passed kind first = λ rest. by_first rest (eq-eqb h.place.kind hop_by_hop kind) first

  pub late_refused : (rest : Endpoint) → h.place.kind ≡ hop_by_hop → is_first h.place ≡ false
      → at_header_by route h rest ≡ Refused reasons.LateHopByHop h.place.named_at
  late_refused rest kind late = by_late rest (eq-eqb h.place.kind hop_by_hop kind) late

  -- Destination Options are passed over where no option has a fault, and refused for the first fault
  pub options_judged : (rest : Endpoint) → h.place.kind ≡ destination_options
      → at_header_by route h rest ≡ unless_fault (options_fault h) rest
  options_judged rest kind = rw kind refl

  pub options_passed : h.place.kind ≡ destination_options → options_fault h ≡ None → IsPassed (at_header_by route) h
  options_passed kind good = λ rest. options_judged rest kind ∙ ap (λ f. unless_fault f rest) good

  pub options_refused : (f : Fault) (rest : Endpoint) → h.place.kind ≡ destination_options → options_fault h ≡ Some f
      → at_header_by route h rest ≡ Refused f.reason f.at
  options_refused f rest kind bad = options_judged rest kind ∙ ap (λ x. unless_fault x rest) bad

  -- a Fragment header is refused
  pub fragment_refused : (rest : Endpoint) → h.place.kind ≡ fragment → at_header_by route h rest ≡ Refused reasons.Fragment h.place.at
  fragment_refused rest kind = rw kind refl

  -- a routing header is what it is
  pub routing_by : (rest : Endpoint) → h.place.kind ≡ routing → at_header_by route h rest ≡ route h rest
  routing_by rest kind =
      by_other rest (ap (λ k. k == hop_by_hop) kind) (ap (λ k. k == destination_options) kind) (ap (λ k. k == fragment) kind)

  decided_by : (x : Endpoint) → ((rest : Endpoint) → at_header_by route h rest ≡ x) → Decides (at_header_by route) h
  decided_by x same = λ one two. same one ∙ sym (same two)

  -- a header is passed over or decides by its kind, or it is a routing header
  pub kind_either : IsPassed (at_header_by route) h ⊎ (Decides (at_header_by route) h
      ⊎ ((rest : Endpoint) → at_header_by route h rest ≡ route h rest))
  kind_either = elim (cases_Bool (h.place.kind == hop_by_hop)) [
    | inl e ↦ elim (cases_Bool (is_first h.place)) [
      | inl first ↦ inl (λ rest. by_first rest e first)
      | inr late ↦ inr (inl (decided_by (Refused reasons.LateHopByHop h.place.named_at) (λ rest. by_late rest e late)))
    ]
    | inr e ↦ elim (cases_Bool (h.place.kind == destination_options)) [
      | inl d ↦ elim (fault_cases (options_fault h)) [
        | inl good ↦ inl (λ rest. by_options rest e d ∙ ap (λ f. unless_fault f rest) good)
        | inr (f, bad) ↦ inr (inl (decided_by (Refused f.reason f.at) (λ rest. by_options rest e d ∙ ap (λ x. unless_fault x rest) bad)))
      ]
      | inr d ↦ elim (cases_Bool (h.place.kind == fragment)) [
        | inl f ↦ inr (inl (decided_by (Refused reasons.Fragment h.place.at) (λ rest. by_fragment rest e d f)))
        | inr f ↦ inr (inr (λ rest. by_other rest e d f))
      ]
    ]
  ]

  routed_decides : ((rest : Endpoint) → at_header_by route h rest ≡ route h rest) → Decides route h → Decides (at_header_by route) h
  routed_decides same decides = λ one two. same one ∙ decides one two ∙ sym (same two)

  -- a header is passed over or decides, if a routing header does
  pub by_either : (IsPassed route h ⊎ Decides route h) → IsPassed (at_header_by route) h ⊎ Decides (at_header_by route) h
  by_either each = elim kind_either [
    | inl passed ↦ inl passed
    | inr (inl decides) ↦ inr decides
    | inr (inr same) ↦ elim each [
      | inl passed ↦ inl (λ rest. same rest ∙ passed rest)
      | inr decides ↦ inr (routed_decides same decides)
    ]
  ]

  -- what holds of those after where the header is passed over, of each refusal in the packet, and of what is done with a
  -- routing header, holds of what comes of the header
  pub by_kind : (p : Packet) (P : Endpoint → Type 0) (rest : Endpoint) → LiesIn p h → StandsIn p h.place
      → (IsPassed (at_header_by route) h → P rest)
      → ((reason : Reason) (at : ℕ) → at ≤ h.place.at + length h.bytes → P (Refused reason at))
      → (is_options h ≡ false → ((x : Endpoint) → at_header_by route h x ≡ route h x) → P (route h rest)) → P (at_header_by route h rest)
  by_kind p P rest lies stands more refused routed = elim (cases_Bool (h.place.kind == hop_by_hop)) [
    | inl e ↦ elim (cases_Bool (is_first h.place)) [
      | inl first ↦ subst P (sym (by_first rest e first)) (more (λ x. by_first x e first))
      | inr late ↦
          let earlier = stands.earlier in
          subst P (sym (by_late rest e late)) (refused reasons.LateHopByHop h.place.named_at (omega arith))
    ]
    | inr e ↦ elim (cases_Bool (h.place.kind == destination_options)) [
      | inl d ↦ elim (fault_cases (options_fault h)) [
        | inl good ↦
            let is : (x : Endpoint) → at_header_by route h x ≡ x = λ x. by_options x e d ∙ ap (λ f. unless_fault f x) good in
            subst P (sym (is rest)) (more is)
        | inr (f, bad) ↦
            let within = options_fault_within p h f lies bad in
            subst P (sym (by_options rest e d ∙ ap (λ x. unless_fault x rest) bad)) (refused f.reason f.at (omega arith))
      ]
      | inr d ↦ elim (cases_Bool (h.place.kind == fragment)) [
        | inl f ↦ subst P (sym (by_fragment rest e d f)) (refused reasons.Fragment h.place.at (omega arith))
        | inr f ↦ subst P (sym (by_other rest e d f)) (routed (rw (e, d) refl) (λ x. by_other x e d f))
      ]
    ]
  ]

-- ---- routing headers that a node does not know

pub unknown_passed : (h : Header) → segments_left h ≡ 0 → IsPassed unknown_routing h
unknown_passed h none = λ rest. let e : (segments_left h == 0) ≡ true = eq-eqb (segments_left h) 0 none in rw e refl

pub unknown_refused : (h : Header) (rest : Endpoint) → 0 < segments_left h
    → unknown_routing h rest ≡ Refused reasons.UnknownRouting (h.place.at + routing_type_at)
unknown_refused h rest left = let e : (segments_left h == 0) ≡ false = ne_eqb (segments_left h) 0 (omega arith) in rw e refl

pub unknown_either : (h : Header) → IsPassed unknown_routing h ⊎ Decides unknown_routing h
unknown_either h = elim (cases_Bool (segments_left h == 0)) [
  | inl none ↦ inl (λ rest. rw none refl)
  | inr some ↦ inr (λ one two. rw some refl)
]

-- ---- segment routing headers at a SID

pub pops_not : (h : Header) (psp : Bool) (x : Endpoint) → 1 < segments_left h
    → (if psp && leaves_none (srh_of h.bytes) then outcome_without h x else x) ≡ x
pops_not h false x more = refl
pops_not h true x more = let e : (segments_left h == 1) ≡ false = ne_eqb (segments_left h) 1 (omega arith) in rw e refl

module _ (s : SidEntry) (p : Packet) (h : Header) where
  pub sid_known : (rest : Endpoint) → is_segment_routing h ≡ true
      → at_sid_routing s p h rest ≡ at_segment_routing s p h rest
  sid_known rest is = rw is refl

  pub sid_unknown : (rest : Endpoint) → is_segment_routing h ≡ false → at_sid_routing s p h rest ≡ unknown_routing h rest
  sid_unknown rest other = rw other refl

  pub known_whole : (rest : Endpoint) → is_replace s.csid ≡ false → at_segment_routing s p h rest ≡ at_whole_segments s p h rest
  known_whole rest whole = rw whole refl

  pub known_packed : (rest : Endpoint) → is_replace s.csid ≡ true → at_segment_routing s p h rest ≡ at_packed_segments s p h rest
  known_packed rest packed = rw packed refl

  pub whole_last : (rest : Endpoint) → (segments_left h == 0) ≡ true → at_whole_segments s p h rest ≡ after_last s h rest
  whole_last rest none = rw none refl

  pub last_stays : (rest : Endpoint) → s.usp ≡ false → after_last s h rest ≡ rest
  last_stays rest no_usp = rw no_usp refl

  pub last_out : (rest : Endpoint) → s.usp ≡ true → after_last s h rest ≡ outcome_without h rest
  last_out rest usp = rw usp refl

  pub whole_steps : (rest : Endpoint) → (segments_left h == 0) ≡ false → goes_on s ≡ true
      → at_whole_segments s p h rest ≡ after_step s h (next_segment p h.place.at (srh_of h.bytes))
  whole_steps rest some goes = rw (some, goes) refl

  pub whole_refuses : (rest : Endpoint) → (segments_left h == 0) ≡ false → goes_on s ≡ false
      → at_whole_segments s p h rest ≡ Refused reasons.BadSegments (h.place.at + segments_left_at)
  whole_refuses rest some stays = rw (some, stays) refl

  pub packed_steps : (rest : Endpoint) → goes_on s ≡ true
      → at_packed_segments s p h rest ≡ by_replace_step s h rest (replace_step (compression_of s) p h.place.at (srh_of h.bytes))
  packed_steps rest goes = rw goes refl

  pub packed_last : (rest : Endpoint) → goes_on s ≡ false → is_at_end (compression_of s) (srh_of h.bytes) p.destination ≡ true
      → at_packed_segments s p h rest ≡ after_last s h rest
  packed_last rest stays end = rw (stays, end) refl

  pub packed_refuses : (rest : Endpoint) → goes_on s ≡ false → is_at_end (compression_of s) (srh_of h.bytes) p.destination ≡ false
      → at_packed_segments s p h rest ≡ Refused reasons.BadSegments (h.place.at + segments_left_at)
  packed_refuses rest stays end = rw (stays, end) refl

  -- a segment routing header is at its end, or decides
  abbrev EndsOr : (Endpoint → Endpoint) → Type 0
  EndsOr treat = (((rest : Endpoint) → treat rest ≡ after_last s h rest) × (segments_left h ≡ 0))
      ⊎ ((one two : Endpoint) → treat one ≡ treat two)

  whole_either : EndsOr (at_whole_segments s p h)
  whole_either = elim (cases_Bool (segments_left h == 0)) [
    | inl none ↦ inl (λ rest. whole_last rest none, eqb-true (segments_left h) 0 none)
    | inr some ↦ inr (elim (cases_Bool (goes_on s)) [
      | inl goes ↦ λ one two. whole_steps one some goes ∙ sym (whole_steps two some goes)
      | inr stays ↦ λ one two. whole_refuses one some stays ∙ sym (whole_refuses two some stays)
    ])
  ]

  step_either : (r : ReplaceStep) → replace_step (compression_of s) p h.place.at (srh_of h.bytes) ≡ r → goes_on s ≡ true
      → EndsOr (at_packed_segments s p h)
  step_either (Moved q ended) e goes = inr (λ one two. packed_steps one goes ∙ ap (by_replace_step s h one) e
      ∙ sym (packed_steps two goes ∙ ap (by_replace_step s h two) e))
  step_either AtEnd e goes = inl (
    λ rest. packed_steps rest goes ∙ ap (by_replace_step s h rest) e,
    at_end_none (compression_of s) (srh_of h.bytes) p.destination (step_at_end (compression_of s) p h.place.at (srh_of h.bytes) e),
  )
  step_either (Dropped fault) e goes = inr (λ one two. packed_steps one goes ∙ ap (by_replace_step s h one) e
      ∙ sym (packed_steps two goes ∙ ap (by_replace_step s h two) e))

  packed_either : EndsOr (at_packed_segments s p h)
  packed_either = elim (cases_Bool (goes_on s)) [
    | inl goes ↦ step_either (replace_step (compression_of s) p h.place.at (srh_of h.bytes)) refl goes
    | inr stays ↦ elim (cases_Bool (is_at_end (compression_of s) (srh_of h.bytes) p.destination)) [
      | inl end ↦ inl (λ rest. packed_last rest stays end, at_end_none (compression_of s) (srh_of h.bytes) p.destination end)
      | inr more ↦ inr (λ one two. packed_refuses one stays more ∙ sym (packed_refuses two stays more))
    ]
  ]

  pub known_either : EndsOr (at_segment_routing s p h)
  known_either = elim (cases_Bool (is_replace s.csid)) [
    | inl packed ↦ elim packed_either [
      | inl end ↦ inl (λ rest. known_packed rest packed ∙ end.0 rest, end.1)
      | inr decides ↦ inr (λ one two. known_packed one packed ∙ decides one two ∙ sym (known_packed two packed))
    ]
    | inr whole ↦ elim whole_either [
      | inl end ↦ inl (λ rest. known_whole rest whole ∙ end.0 rest, end.1)
      | inr decides ↦ inr (λ one two. known_whole one whole ∙ decides one two ∙ sym (known_whole two whole))
    ]
  ]

  -- any other is passed over or decides
  pub other_either : is_segment_routing h ≡ false → IsPassed (at_sid_routing s p) h ⊎ Decides (at_sid_routing s p) h
  other_either other = elim (unknown_either h) [
    | inl passed ↦ inl (λ rest. sid_unknown rest other ∙ passed rest)
    | inr decides ↦ inr (λ one two. sid_unknown one other ∙ decides one two ∙ sym (sid_unknown two other))
  ]

  pub routing_kind : is_segment_routing h ≡ true → h.place.kind ≡ routing
  routing_kind is = elim (cases_Bool (h.place.kind == routing)) [
    | inl e ↦ eqb-true h.place.kind routing e
    | inr e ↦ let no : is_segment_routing h ≡ false = rw e refl in cc
  ]
