-- What comes of a header at a SID and at an address of a node.
use Rattle.std.proofs.Common.{◌≡◌, ℕ, ◌+◌, ◌<◌, ◌≤◌, Bool, true, false, ◌&&◌, not, length, refl, sym, subst, ◌∙◌, ◌⊎◌, arith, inl, inr}
use Rattle.std.proofs.lemmas.Bool.{cases_Bool, eq-eqb, ne_eqb}
use Rattle.srv6_rules.specs.declared.reason.Reason.{Reason}
use Rattle.srv6_rules.specs.declared.reason.Reason.TheVariants as reasons
use Rattle.srv6_rules.specs.declared.sid.SidEntry.{SidEntry}
use Rattle.srv6_rules.specs.declared.sid.Csid.TheVariants as csids
use Rattle.srv6_rules.specs.Behaviours.{goes_on}
use Rattle.srv6_rules.specs.Packet.{Packet}
use Rattle.srv6_rules.specs.Srh.{srh_of, segments_left_at, routing_type_at}
use Rattle.srv6_rules.specs.Chain.{Header, routing, segments_left, is_segment_routing}
use Rattle.srv6_rules.specs.ChainTerms.{LiesIn, StandsIn}
use Rattle.srv6_rules.specs.CompressedSteps.{is_replace}
use Rattle.srv6_rules.specs.Endpoint.{Endpoint, Refused, next_segment, next_csid, shifts_at, is_options, at_whole_segments, at_packed_segments, at_segment_routing, unknown_routing, at_header_by, at_sid_routing, at_header, at_address_header, outcome_without, after_step, after_last}
use Rattle.srv6_rules.specs.EndpointTerms.{IsPassed, IsTakenOut, IsSkipped, Decides, TakesWhole}
use Rattle.srv6_rules.proofs.Treatments.{routing_by, kind_either, by_either, by_kind, unknown_passed, unknown_refused, unknown_either, pops_not, sid_known, sid_unknown, known_whole, known_packed, whole_last, last_stays, last_out, whole_steps, whole_refuses, known_either, other_either, routing_kind}

-- ---- a header at a SID

module _ (s : SidEntry) (p : Packet) (h : Header) where
  -- where the SID does not shift, and at options, the header is what its kind makes it
  pub at_header_unshifted : (rest : Endpoint) → shifts_at s p ≡ false → at_header s p h rest ≡ at_header_by (at_sid_routing s p) h rest
  at_header_unshifted rest not = rw not refl

  at_header_by_law : (rest : Endpoint) → (shifts_at s p && not (is_options h)) ≡ false
      → at_header s p h rest ≡ at_header_by (at_sid_routing s p) h rest
  at_header_by_law rest not = rw not refl

  -- a SID shifts at a header that has no options
  pub at_header_shifts : (rest : Endpoint) → shifts_at s p ≡ true → is_options h ≡ false → at_header s p h rest ≡ next_csid s p
  at_header_shifts rest is other = rw (is, other) refl

  pub at_header_options : (rest : Endpoint) → is_options h ≡ true → at_header s p h rest ≡ at_header_by (at_sid_routing s p) h rest
  at_header_options rest is = at_header_by_law rest (none (shifts_at s p) (is_options h) is)
    where
      none : (a b : Bool) → b ≡ true → (a && not b) ≡ false
      none true true e = refl
      none false true e = refl
      none true false e = cc
      none false false e = cc

  shifts_decides : (shifts_at s p && not (is_options h)) ≡ true → Decides (at_header s p) h
  shifts_decides is = λ one two. rw is refl

  -- what is so of a packet that is shifted, of those after where the header is passed over, of each refusal in the packet, and of
  -- what is done with a routing header, is so of what comes of the header
  pub header_by : (P : Endpoint → Type 0) (rest : Endpoint) → LiesIn p h → StandsIn p h.place
      → (shifts_at s p ≡ true → P (next_csid s p))
      → (IsPassed (at_header s p) h → P rest)
      → ((reason : Reason) (at : ℕ) → at ≤ h.place.at + length h.bytes → P (Refused reason at))
      → (shifts_at s p ≡ false → ((x : Endpoint) → at_header s p h x ≡ at_sid_routing s p h x) → P (at_sid_routing s p h rest))
      → P (at_header s p h rest)
  header_by P rest lies stands shift more refused routed = elim (cases_Bool (shifts_at s p)) [
    | inl is ↦ elim (cases_Bool (is_options h)) [
      | inl options ↦ subst P (sym (at_header_options rest options))
          (by_kind (at_sid_routing s p) h p P rest lies stands (λ passed. more (λ x. at_header_options x options ∙ passed x)) refused
          (λ other same. cc))
      | inr other ↦ subst P (sym (at_header_shifts rest is other)) (shift is)
    ]
    | inr stays ↦ subst P (sym (at_header_unshifted rest stays))
        (by_kind (at_sid_routing s p) h p P rest lies stands (λ passed. more (λ x. at_header_unshifted x stays ∙ passed x)) refused
        (λ other same. routed stays (λ x. at_header_unshifted x stays ∙ same x)))
  ]

  -- a routing header where the SID does not shift
  pub at_header_routing : (rest : Endpoint) → shifts_at s p ≡ false → h.place.kind ≡ routing → at_header s p h rest
      ≡ at_sid_routing s p h rest
  at_header_routing rest not kind = at_header_unshifted rest not ∙ routing_by (at_sid_routing s p) h rest kind

  -- a segment routing header there
  pub at_header_known : (rest : Endpoint) → shifts_at s p ≡ false → is_segment_routing h ≡ true
      → at_header s p h rest ≡ at_segment_routing s p h rest
  at_header_known rest not is = at_header_routing rest not (routing_kind s p h is) ∙ sid_known s p h rest is

  pub at_header_packed : (rest : Endpoint) → is_replace s.csid ≡ true → shifts_at s p ≡ false → is_segment_routing h ≡ true
      → at_header s p h rest ≡ at_packed_segments s p h rest
  at_header_packed rest packed not is = at_header_known rest not is ∙ known_packed s p h rest packed

  pub at_header_whole : (rest : Endpoint) → TakesWhole s p → is_segment_routing h ≡ true
      → at_header s p h rest ≡ at_whole_segments s p h rest
  at_header_whole rest takes is = at_header_known rest takes.unshifted is ∙ known_whole s p h rest takes.whole

  -- one with no segments left is passed over, or with USP taken out
  pub at_header_last : (rest : Endpoint) → TakesWhole s p → is_segment_routing h ≡ true → segments_left h ≡ 0
      → at_header s p h rest ≡ after_last s h rest
  at_header_last rest takes is none =
      at_header_whole rest takes is ∙ whole_last s p h rest (eq-eqb (segments_left h) 0 none)

  taken_out : s.usp ≡ true → is_segment_routing h ≡ true → segments_left h ≡ 0
      → ((rest : Endpoint) → at_header s p h rest ≡ after_last s h rest) → IsTakenOut s p h
  taken_out usp is none same =
      record { usp = usp; routing = is; none_left = none; taken_out = λ rest. same rest ∙ last_out s p h rest usp }

  pub at_header_taken_out : TakesWhole s p → s.usp ≡ true → is_segment_routing h ≡ true → segments_left h ≡ 0 → IsTakenOut s p h
  at_header_taken_out takes usp is none = taken_out usp is none (λ rest. at_header_last rest takes is none)

  -- at its end it is skipped, whether there is USP or not
  pub end_skipped : is_segment_routing h ≡ true → segments_left h ≡ 0
      → ((rest : Endpoint) → at_header s p h rest ≡ after_last s h rest) → IsSkipped s p h
  end_skipped is none same = elim (cases_Bool s.usp) [
    | inl usp ↦ inr (taken_out usp is none same)
    | inr no_usp ↦ inl (λ rest. same rest ∙ last_stays s p h rest no_usp)
  ]

  skipped_routing : ((rest : Endpoint) → at_header s p h rest ≡ at_sid_routing s p h rest)
      → IsSkipped s p h ⊎ Decides (at_header s p) h
  skipped_routing same = elim (cases_Bool (is_segment_routing h)) [
    | inl is ↦ elim (known_either s p h) [
      | inl end ↦ inl (end_skipped is end.1 (λ rest. same rest ∙ sid_known s p h rest is ∙ end.0 rest))
      | inr decides ↦ inr (λ one two. same one ∙ sid_known s p h one is ∙ decides one two
          ∙ sym (same two ∙ sid_known s p h two is))
    ]
    | inr other ↦ elim (other_either s p h other) [
      | inl passed ↦ inl (inl (λ rest. same rest ∙ passed rest))
      | inr decides ↦ inr (λ one two. same one ∙ decides one two ∙ sym (same two))
    ]
  ]

  -- a header is passed over or taken out at a SID, or decides what comes of the packet
  pub at_header_skipped : IsSkipped s p h ⊎ Decides (at_header s p) h
  at_header_skipped = elim (cases_Bool (shifts_at s p && not (is_options h))) [
    | inl is ↦ inr (shifts_decides is)
    | inr stays ↦ elim (kind_either (at_sid_routing s p) h) [
      | inl passed ↦ inl (inl (λ rest. at_header_by_law rest stays ∙ passed rest))
      | inr (inl decides) ↦ inr (λ one two. at_header_by_law one stays ∙ decides one two ∙ sym (at_header_by_law two stays))
      | inr (inr same) ↦ skipped_routing (λ rest. at_header_by_law rest stays ∙ same rest)
    ]
  ]

  -- a header is passed over at a SID without USP, or decides what comes of the packet
  pub at_header_either : s.usp ≡ false → IsPassed (at_header s p) h ⊎ Decides (at_header s p) h
  at_header_either no_usp = elim at_header_skipped [
    | inl (inl passed) ↦ inl passed
    | inl (inr out) ↦ let usp = out.usp in cc
    | inr decides ↦ inr decides
  ]

  pub at_header_passed : TakesWhole s p → s.usp ≡ false → h.place.kind ≡ routing → segments_left h ≡ 0 → IsPassed (at_header s p) h
  at_header_passed takes no_usp kind none = λ rest. elim (cases_Bool (is_segment_routing h)) [
    | inl is ↦ at_header_last rest takes is none ∙ last_stays s p h rest no_usp
    | inr other ↦ at_header_routing rest takes.unshifted kind ∙ sid_unknown s p h rest other ∙ unknown_passed h none rest
  ]

  pub at_header_passed_other : shifts_at s p ≡ false → h.place.kind ≡ routing → is_segment_routing h ≡ false → segments_left h ≡ 0
      → IsPassed (at_header s p) h
  at_header_passed_other not kind other none = λ rest. at_header_routing rest not kind ∙ sid_unknown s p h rest other
      ∙ unknown_passed h none rest

  -- a segment routing header with segments left is stepped over at a SID that goes on, and refused at another
  pub at_header_after_step : (rest : Endpoint) → TakesWhole s p → is_segment_routing h ≡ true → 0 < segments_left h → goes_on s ≡ true
      → at_header s p h rest ≡ after_step s h (next_segment p h.place.at (srh_of h.bytes))
  at_header_after_step rest takes is left goes =
      at_header_whole rest takes is ∙ whole_steps s p h rest (ne_eqb (segments_left h) 0 (omega arith)) goes

  -- without PSP that is all, and with it too where segments are left
  pub at_header_steps : (rest : Endpoint) → TakesWhole s p → is_segment_routing h ≡ true → 0 < segments_left h → goes_on s ≡ true
      → (s.psp ≡ false) ⊎ (1 < segments_left h)
      → at_header s p h rest ≡ next_segment p h.place.at (srh_of h.bytes)
  at_header_steps rest takes is left goes stays = at_header_after_step rest takes is left goes ∙ elim stays [
    | inl no_psp ↦ rw no_psp refl
    | inr more ↦ pops_not h s.psp (next_segment p h.place.at (srh_of h.bytes)) more
  ]

  -- with PSP the header is taken out where Segments Left becomes 0
  pub at_header_pops : (rest : Endpoint) → TakesWhole s p → is_segment_routing h ≡ true → segments_left h ≡ 1 → goes_on s ≡ true
      → s.psp ≡ true
      → at_header s p h rest ≡ outcome_without h (next_segment p h.place.at (srh_of h.bytes))
  at_header_pops rest takes is one goes psp =
      at_header_after_step rest takes is (omega arith) goes
      ∙ rw (psp, eq-eqb (segments_left h) 1 one) refl

  pub at_header_refuses : (rest : Endpoint) → TakesWhole s p → is_segment_routing h ≡ true → 0 < segments_left h → goes_on s ≡ false
      → at_header s p h rest ≡ Refused reasons.BadSegments (h.place.at + segments_left_at)
  at_header_refuses rest takes is left stays =
      at_header_whole rest takes is ∙ whole_refuses s p h rest (ne_eqb (segments_left h) 0 (omega arith)) stays

  -- any other routing header with segments left is refused
  pub at_header_unknown : (rest : Endpoint) → shifts_at s p ≡ false → h.place.kind ≡ routing → is_segment_routing h ≡ false
      → 0 < segments_left h
      → at_header s p h rest ≡ Refused reasons.UnknownRouting (h.place.at + routing_type_at)
  at_header_unknown rest not kind other left =
      at_header_routing rest not kind ∙ sid_unknown s p h rest other ∙ unknown_refused h rest left

-- a plain SID takes whole segments at each packet
pub plain_whole : (s : SidEntry) (p : Packet) → s.csid ≡ csids.Plain → TakesWhole s p
plain_whole s p plain = record { whole = rw plain refl; unshifted = rw plain refl }

-- ---- at an address

-- a header is passed over at an address, or decides what comes of the packet
pub at_address_header_either : (h : Header) → IsPassed at_address_header h ⊎ Decides at_address_header h
at_address_header_either h = by_either unknown_routing h (unknown_either h)

pub at_address_header_passed : (h : Header) → h.place.kind ≡ routing → segments_left h ≡ 0 → IsPassed at_address_header h
at_address_header_passed h kind none = λ rest. routing_by unknown_routing h rest kind ∙ unknown_passed h none rest

pub at_address_header_refuses : (h : Header) (rest : Endpoint) → h.place.kind ≡ routing → 0 < segments_left h
    → at_address_header h rest ≡ Refused reasons.UnknownRouting (h.place.at + routing_type_at)
at_address_header_refuses h rest kind left = routing_by unknown_routing h rest kind ∙ unknown_refused h rest left
