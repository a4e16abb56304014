-- What is so of each outcome at a SID.
use Rattle.std.proofs.Common.{◌≡◌, ℕ, zero, suc, get_or, ◌&&◌, ◌⊎◌, ◌+◌, ◌-◌, ◌<◌, ◌≤◌, Bool, true, false, ◌==◌, not, nat_le, if◌then◌else◌, List, length, All, refl, sym, ap, subst, ◌∙◌, arith, inl, inr}
use Rattle.std.proofs.lemmas.Bool.{cases_Bool, ne_eqb, leb-false, eqb-true, eqb-false}
use Rattle.std.specs.Prelude.{None}
use Rattle.srv6_rules.specs.declared.reason.Reason.{Reason}
use Rattle.srv6_rules.specs.declared.reason.Reason.TheVariants as reasons
use Rattle.srv6_rules.specs.declared.sid.SidEntry.{SidEntry}
use Rattle.srv6_rules.specs.declared.sid.Csid.{Csid}
use Rattle.srv6_rules.specs.declared.sid.Csid.TheVariants as csids
use Rattle.srv6_rules.specs.Compressed.{argument_of}
use Rattle.srv6_rules.specs.Behaviours.{goes_on, exposes, family_inside}
use Rattle.srv6_rules.specs.Packet.{Packet, header_len}
use Rattle.srv6_rules.specs.Srh.{srh_of, segments_left_at}
use Rattle.srv6_rules.specs.Areas.{tlvs_fault}
use Rattle.srv6_rules.specs.Chain.{ChainPlace, Header, ChainEnd, Upper, Cut, without, segments_left, is_segment_routing, start_of, from_place, chain_of}
use Rattle.srv6_rules.specs.ChainTerms.{LiesIn, StandsIn, place_of, chain_at}
use Rattle.srv6_rules.specs.CompressedSteps.{ReplaceStep, Moved, AtEnd, Dropped, compression_of, is_next, is_replace, is_at_end, shifted, replace_step}
use Rattle.srv6_rules.specs.Endpoint.{Endpoint, Onward, Exposed, Delivered, Refused, outcome_without, as_in, leaves_none, after_step, after_last, is_allowed, has_bad_segments, advanced, next_segment, next_csid, shifts_at, by_replace_step, at_whole_segments, at_packed_segments, at_segment_routing, at_sid_routing, at_header, at_last_upper, at_upper, at_end, at_sid}
use Rattle.srv6_rules.specs.EndpointTerms.{StepsTo, StepsWithPsp, MovesWithPsp, TakesWhole, ExposesFrom, IsPassed, IsSkipped, IsReached}
use Rattle.srv6_rules.proofs.BehaviourLaws.{exposes_family}
use Rattle.srv6_rules.proofs.AreaItems.{tlvs_fault_within}
use Rattle.srv6_rules.proofs.Chains.{start_stands, chain_at_stand}
use Rattle.srv6_rules.proofs.PacketReached.{over_reached, reached_lies, reached_stands}
use Rattle.srv6_rules.proofs.Treatments.{fault_cases, sid_known, known_whole, known_packed, whole_last, whole_steps, whole_refuses, packed_steps, packed_last, packed_refuses, last_stays, last_out}
use Rattle.srv6_rules.proofs.HeadersAtSids.{header_by, at_header_known, end_skipped}
use Rattle.srv6_rules.proofs.SteppedPackets.{step_at_end, at_end_none, step_place}

-- ---- what is so of each outcome at a SID

pub record GoesOn (s : SidEntry) (p q : Packet) : Type 0 where
  pub whole : TakesWhole s p → s.usp ≡ false → StepsWithPsp s p q
  pub packed : is_replace s.csid ≡ true → s.usp ≡ false → MovesWithPsp s p q
  pub shift : shifts_at s p ≡ true → q ≡ shifted (compression_of s) p

abbrev pub AtSid : SidEntry → Packet → Endpoint → Type 0
AtSid s p (Onward q) = GoesOn s p q
AtSid s p (Exposed family bytes) = ExposesFrom s p family bytes
AtSid s p (Delivered q) = s.usp ≡ false → q ≡ p
AtSid s p (Refused reason at) = at ≤ header_len + length p.payload

-- the chain of a packet ends at a place of it
pub end_stands : (p : Packet) → StandsIn p (place_of (chain_of p).end)
unfolding chain_at
end_stands p = (chain_at_stand p (start_of p) (start_stands p)).1

-- the step over a segment routing header refuses the packet at a place of it, or makes the next segment the destination
pub next_segment_cases : (p : Packet) (h : Header) → LiesIn p h
    → ((reason : Reason) × (at : ℕ) × (at ≤ header_len + length p.payload)
    × (next_segment p h.place.at (srh_of h.bytes) ≡ Refused reason at))
    ⊎ ((1 < p.hop_limit) × ((tlvs_fault h.place.at (srh_of h.bytes) ≡ None)
    × (next_segment p h.place.at (srh_of h.bytes) ≡ Onward (advanced p h.place.at (srh_of h.bytes)))))
next_segment_cases p h lies =
    let within = lies.within in
    let least = lies.least in
    elim (cases_Bool (nat_le p.hop_limit 1)) [
      | inl low ↦ inl (reasons.HopLimit, 0, omega arith, rw low refl)
      | inr high ↦ elim (cases_Bool (has_bad_segments (srh_of h.bytes))) [
        | inl bad ↦ inl (reasons.BadSegments, h.place.at + segments_left_at, omega arith, rw (high, bad) refl)
        | inr fine ↦ elim (fault_cases (tlvs_fault h.place.at (srh_of h.bytes))) [
          | inl good ↦ inr (leb-false p.hop_limit 1 high, (good, rw (high, fine, good) refl))
          | inr (f, bad) ↦
              let place = tlvs_fault_within p h f lies bad in
              inl (f.reason, f.at, omega arith, rw (high, fine, bad) refl)
        ]
      ]
    ]

pub after_step_refused : (s : SidEntry) (h : Header) (reason : Reason) (at : ℕ) → after_step s h (Refused reason at) ≡ Refused reason at
after_step_refused s h reason at = elim (cases_Bool (s.psp && leaves_none (srh_of h.bytes))) [
  | inl pops ↦ rw pops refl
  | inr stays ↦ rw stays refl
]

-- Segments Left is 0 after the step exactly where it was 1
left_none : (n : ℕ) → (n ≡ 0 → ⊥) → ((n - 1) == 0) ≡ (n == 1)
left_none zero some = absurd (some refl)
left_none (suc zero) some = refl
left_none (suc (suc n)) some = ne_eqb (suc (suc n) - 1) 0 (omega arith) ∙ sym (ne_eqb (suc (suc n)) 1 (omega arith))

module _ (s : SidEntry) (p : Packet) where
  skipped_passed : s.usp ≡ false → (h : Header) → IsSkipped s p h → IsPassed (at_header s p) h
  skipped_passed no_usp h (inl passed) = passed
  skipped_passed no_usp h (inr out) = let usp = out.usp in cc

  reached_passed : s.usp ≡ false → (h : Header) → IsReached (IsSkipped s p) (chain_of p).headers h
      → IsReached (IsPassed (at_header s p)) (chain_of p).headers h
  reached_passed no_usp h r =
      record {
        before = r.before;
        after = r.after;
        split = r.split;
        passed = λ i d below. skipped_passed no_usp (get_or r.before i d) (r.passed i d below);
      }

  steps : s.usp ≡ false → (h : Header) → IsReached (IsSkipped s p) (chain_of p).headers h → LiesIn p h → is_segment_routing h ≡ true
      → (segments_left h ≡ 0 → ⊥) → 1 < p.hop_limit → tlvs_fault h.place.at (srh_of h.bytes) ≡ None
      → StepsTo s p (advanced p h.place.at (srh_of h.bytes))
  steps no_usp h reached lies routing some above good =
      record {
        header = h;
        left = segments_left h - 1;
        reached = reached_passed no_usp h reached;
        routing = routing;
        lies = lies;
        above_one = above;
        hop_limit = omega arith;
        was_left = omega arith;
        no_fault = good;
        destination = refl;
        payload = refl;
        others = refl;
      }

  -- where the SID takes whole segments it is neither of the others
  onward_whole : (q : Packet) → shifts_at s p ≡ false → is_replace s.csid ≡ false → (s.usp ≡ false → StepsWithPsp s p q) → GoesOn s p q
  onward_whole q stays whole steps =
      record { whole = λ takes. steps; packed = λ is no_usp. cc; shift = λ is. cc }

  onward_packed : (q : Packet) → shifts_at s p ≡ false → is_replace s.csid ≡ true → (s.usp ≡ false → MovesWithPsp s p q) → GoesOn s p q
  onward_packed q stays packed moves =
      record { whole = λ takes no_usp. let not = takes.whole in cc; packed = λ is. moves; shift = λ is. cc }

  onward_is : (h : Header) → shifts_at s p ≡ false → is_replace s.csid ≡ false → IsReached (IsSkipped s p) (chain_of p).headers h
      → LiesIn p h → is_segment_routing h ≡ true
      → (segments_left h ≡ 0 → ⊥) → 1 < p.hop_limit → tlvs_fault h.place.at (srh_of h.bytes) ≡ None
      → AtSid s p (after_step s h (Onward (advanced p h.place.at (srh_of h.bytes))))
  unfolding steps
  onward_is h stays whole reached lies routing some above good =
      let q : Packet = advanced p h.place.at (srh_of h.bytes) in
      let same = left_none (segments_left h) some in
      elim (cases_Bool (s.psp && (segments_left h == 1))) [
        | inl pops ↦
            let test : (s.psp && ((segments_left h - 1) == 0)) ≡ true = ap (λ b. s.psp && b) same ∙ pops in
            rw pops (onward_whole (without q (as_in q h)) stays whole (λ no_usp. record {
              stepped = q;
              step = steps no_usp h reached lies routing some above good;
              popped = rw test refl;
            }))
        | inr keeps ↦
            let test : (s.psp && ((segments_left h - 1) == 0)) ≡ false = ap (λ b. s.psp && b) same ∙ keeps in
            rw keeps (onward_whole q stays whole (λ no_usp. record {
              stepped = q;
              step = steps no_usp h reached lies routing some above good;
              popped = rw test refl;
            }))
      ]

  stepped_is : (h : Header) → shifts_at s p ≡ false → is_replace s.csid ≡ false → IsReached (IsSkipped s p) (chain_of p).headers h
      → LiesIn p h → is_segment_routing h ≡ true
      → (segments_left h ≡ 0 → ⊥) → AtSid s p (after_step s h (next_segment p h.place.at (srh_of h.bytes)))
  stepped_is h stays whole reached lies routing some =
      let P : Endpoint → Type 0 = λ x. AtSid s p x in
      elim (next_segment_cases p h lies) [
        | inl (reason, at, within, e) ↦ subst P (sym (ap (after_step s h) e ∙ after_step_refused s h reason at)) within
        | inr (above, (good, e)) ↦ subst P (sym (ap (after_step s h) e))
            (onward_is h stays whole reached lies routing some above good)
      ]

  -- a header that is taken out changes nothing of what is so without USP
  out_is : (h : Header) → shifts_at s p ≡ false → s.usp ≡ true → (x : Endpoint) → AtSid s p x → AtSid s p (outcome_without h x)
  out_is h stays usp (Onward q) is =
      record { whole = λ takes no_usp. cc; packed = λ packed no_usp. cc; shift = λ shifts. cc }
  out_is h stays usp (Exposed family bytes) is = is
  out_is h stays usp (Delivered q) is = λ no_usp. cc
  out_is h stays usp (Refused reason at) is = is

  last_is : (h : Header) → shifts_at s p ≡ false → is_segment_routing h ≡ true → segments_left h ≡ 0
      → ((rest : Endpoint) → at_header s p h rest ≡ after_last s h rest)
      → (rest : Endpoint) → (IsSkipped s p h → AtSid s p rest) → AtSid s p (after_last s h rest)
  last_is h stays is none same rest more =
      let P : Endpoint → Type 0 = λ x. AtSid s p x in
      let so : AtSid s p rest = more (end_skipped s p h is none same) in
      elim (cases_Bool s.usp) [
        | inl usp ↦ subst P (sym (last_out s p h rest usp)) (out_is h stays usp rest so)
        | inr no_usp ↦ subst P (sym (last_stays s p h rest no_usp)) so
      ]

  -- whole segments
  whole_is : (h : Header) → shifts_at s p ≡ false → is_replace s.csid ≡ false → IsReached (IsSkipped s p) (chain_of p).headers h
      → LiesIn p h → is_segment_routing h ≡ true → ((x : Endpoint) → at_header s p h x ≡ at_whole_segments s p h x)
      → (rest : Endpoint) → (IsSkipped s p h → AtSid s p rest) → AtSid s p (at_whole_segments s p h rest)
  whole_is h stays whole reached lies is same rest more =
      let P : Endpoint → Type 0 = λ x. AtSid s p x in
      let within = lies.within in
      let least = lies.least in
      elim (cases_Bool (segments_left h == 0)) [
        | inl none ↦ subst P (sym (whole_last s p h rest none)) (last_is h stays is (eqb-true (segments_left h) 0 none)
            (λ x. same x ∙ whole_last s p h x none) rest more)
        | inr some ↦ elim (cases_Bool (goes_on s)) [
          | inl goes ↦ subst P (sym (whole_steps s p h rest some goes))
              (stepped_is h stays whole reached lies is (eqb-false (segments_left h) 0 some))
          | inr ends ↦ subst P (sym (whole_refuses s p h rest some ends)) (omega arith)
        ]
      ]

  -- packed segments
  moved_by : (h : Header) → shifts_at s p ≡ false → is_replace s.csid ≡ true → IsReached (IsSkipped s p) (chain_of p).headers h
      → LiesIn p h → is_segment_routing h ≡ true → (q : Packet) (ended : Bool)
      → replace_step (compression_of s) p h.place.at (srh_of h.bytes) ≡ Moved q ended
      → (pops : Bool) → (s.psp && ended) ≡ pops
      → AtSid s p (if pops then outcome_without h (Onward q) else Onward q)
  moved_by h stays packed reached lies is q ended e true pops =
      onward_packed (without q (as_in q h)) stays packed (λ no_usp. record {
        header = h;
        reached = reached_passed no_usp h reached;
        routing = is;
        lies = lies;
        stepped = q;
        ended = ended;
        step = e;
        popped = rw pops refl;
      })
  moved_by h stays packed reached lies is q ended e false keeps =
      onward_packed q stays packed (λ no_usp. record {
        header = h;
        reached = reached_passed no_usp h reached;
        routing = is;
        lies = lies;
        stepped = q;
        ended = ended;
        step = e;
        popped = rw keeps refl;
      })

  step_is : (h : Header) → shifts_at s p ≡ false → is_replace s.csid ≡ true → IsReached (IsSkipped s p) (chain_of p).headers h
      → LiesIn p h → is_segment_routing h ≡ true → goes_on s ≡ true
      → ((x : Endpoint) → at_header s p h x ≡ at_packed_segments s p h x)
      → (rest : Endpoint) → (IsSkipped s p h → AtSid s p rest)
      → (r : ReplaceStep) → replace_step (compression_of s) p h.place.at (srh_of h.bytes) ≡ r
      → AtSid s p (by_replace_step s h rest r)
  step_is h stays packed reached lies is goes same rest more (Moved q ended) e =
      moved_by h stays packed reached lies is q ended e (s.psp && ended) refl
  step_is h stays packed reached lies is goes same rest more AtEnd e =
      let c = compression_of s in
      last_is h stays is (at_end_none c (srh_of h.bytes) p.destination (step_at_end c p h.place.at (srh_of h.bytes) e))
      (λ x. same x ∙ packed_steps s p h x goes ∙ ap (by_replace_step s h x) e) rest more
  step_is h stays packed reached lies is goes same rest more (Dropped fault) e =
      step_place (compression_of s) p h lies fault e

  packed_is : (h : Header) → shifts_at s p ≡ false → is_replace s.csid ≡ true → IsReached (IsSkipped s p) (chain_of p).headers h
      → LiesIn p h → is_segment_routing h ≡ true → ((x : Endpoint) → at_header s p h x ≡ at_packed_segments s p h x)
      → (rest : Endpoint) → (IsSkipped s p h → AtSid s p rest) → AtSid s p (at_packed_segments s p h rest)
  packed_is h stays packed reached lies is same rest more =
      let P : Endpoint → Type 0 = λ x. AtSid s p x in
      let within = lies.within in
      let least = lies.least in
      let c = compression_of s in
      elim (cases_Bool (goes_on s)) [
        | inl goes ↦ subst P (sym (packed_steps s p h rest goes))
            (step_is h stays packed reached lies is goes same rest more (replace_step c p h.place.at (srh_of h.bytes)) refl)
        | inr ends ↦ elim (cases_Bool (is_at_end c (srh_of h.bytes) p.destination)) [
          | inl end ↦ subst P (sym (packed_last s p h rest ends end))
              (last_is h stays is (at_end_none c (srh_of h.bytes) p.destination end)
              (λ x. same x ∙ packed_last s p h x ends end) rest more)
          | inr some ↦ subst P (sym (packed_refuses s p h rest ends some)) (omega arith)
        ]
      ]

  known_is : (h : Header) → shifts_at s p ≡ false → IsReached (IsSkipped s p) (chain_of p).headers h
      → LiesIn p h → is_segment_routing h ≡ true → (rest : Endpoint) → (IsSkipped s p h → AtSid s p rest)
      → AtSid s p (at_segment_routing s p h rest)
  known_is h stays reached lies is rest more =
      let P : Endpoint → Type 0 = λ x. AtSid s p x in
      elim (cases_Bool (is_replace s.csid)) [
        | inl packed ↦ subst P (sym (known_packed s p h rest packed))
            (packed_is h stays packed reached lies is (λ x. at_header_known s p h x stays is ∙ known_packed s p h x packed) rest more)
        | inr whole ↦ subst P (sym (known_whole s p h rest whole))
            (whole_is h stays whole reached lies is (λ x. at_header_known s p h x stays is ∙ known_whole s p h x whole) rest more)
      ]

  routing_by_type : (h : Header) → shifts_at s p ≡ false → IsReached (IsSkipped s p) (chain_of p).headers h → LiesIn p h
      → (rest : Endpoint) → (IsSkipped s p h → AtSid s p rest) → ((x : Endpoint) → at_header s p h x ≡ at_sid_routing s p h x)
      → AtSid s p (at_sid_routing s p h rest)
  routing_by_type h stays reached lies rest more same =
      let within = lies.within in
      let least = lies.least in
      elim (cases_Bool (is_segment_routing h)) [
        | inl is ↦ let P : Endpoint → Type 0 = λ x. AtSid s p x in
            subst P (sym (sid_known s p h rest is)) (known_is h stays reached lies is rest more)
        | inr other ↦ rw other (elim (cases_Bool (segments_left h == 0)) [
          | inl none ↦ rw none (more (inl (λ x. same x ∙ (rw (other, none) refl))))
          | inr some ↦ rw some (omega arith)
        ])
      ]

  -- the packet that is shifted
  next_by : shifts_at s p ≡ true → (low : Bool) → nat_le p.hop_limit 1 ≡ low
      → AtSid s p (if low then Refused reasons.HopLimit 0 else Onward (shifted (compression_of s) p))
  next_by shifts true e = omega arith
  next_by shifts false e =
      record {
        whole = λ takes no_usp. let stays = takes.unshifted in cc;
        packed = λ packed no_usp. absurd (never s.csid (not (argument_of p.destination s.prefix.len == 0)) packed shifts);
        shift = λ is. refl;
      }
    where
      never : (c : Csid) (b : Bool) → is_replace c ≡ true → (is_next c && b) ≡ true → ⊥
      never csids.Plain b packed shifts = cc
      never csids.Next b packed shifts = cc
      never csids.Replace b packed shifts = cc

  next_is : shifts_at s p ≡ true → AtSid s p (next_csid s p)
  next_is shifts = next_by shifts (nat_le p.hop_limit 1) refl

  at_header_is : (h : Header) → IsReached (IsSkipped s p) (chain_of p).headers h → (rest : Endpoint)
      → (IsSkipped s p h → AtSid s p rest) → AtSid s p (at_header s p h rest)
  unfolding chain_at
  at_header_is h reached rest more =
      let lies = reached_lies (IsSkipped s p) p (start_of p) h (omega arith) reached in
      let stands = reached_stands (IsSkipped s p) p (start_of p) h (start_stands p) reached in
      let within = lies.within in
      header_by s p h (AtSid s p) rest lies stands next_is (λ passed. more (inl passed)) (λ reason at below. omega arith)
      (λ stays same. routing_by_type h stays reached lies rest more same)

  upper_by : (place : ChainPlace) → (chain_of p).end ≡ Upper place → All (IsSkipped s p) (chain_of p).headers
      → StandsIn p place → (exposed allowed : Bool) → exposes s place.kind ≡ exposed
      → AtSid s p (if exposed then Exposed (family_inside place.kind) (from_place p place.at)
      else if allowed then Delivered p else Refused reasons.UpperLayer place.at)
  upper_by place upper passed stands true allowed e =
      record {
        place = place;
        upper = upper;
        passed = passed;
        exposed = e;
        is_family = exposes_family s place.kind e;
        within = stands.within;
        inside = refl;
      }
  upper_by place upper passed stands false true e = λ no_usp. refl
  upper_by place upper passed stands false false e = stands.within

  at_end_is : (allow : List ℕ) (end : ChainEnd) → (chain_of p).end ≡ end → StandsIn p (place_of end)
      → All (IsSkipped s p) (chain_of p).headers → AtSid s p (at_end s allow p end)
  at_end_is allow (Upper place) upper stands passed = upper_is (shifts_at s p) refl
    where
      upper_is : (shifts : Bool) → shifts_at s p ≡ shifts
          → AtSid s p (if shifts then next_csid s p else at_last_upper s allow p place)
      upper_is true is = next_is is
      upper_is false stays = upper_by place upper passed stands (exposes s place.kind) (is_allowed allow place.kind) refl
  at_end_is allow (Cut place) upper stands passed = stands.within

  pub at_sid_is : (allow : List ℕ) → AtSid s p (at_sid s allow p)
  at_sid_is allow =
      over_reached (at_header s p) (IsSkipped s p) (AtSid s p) (chain_of p).headers (at_end s allow p (chain_of p).end)
      (λ passed. at_end_is allow (chain_of p).end refl (end_stands p) passed)
      (λ h rest reached more. at_header_is h reached rest more)

-- in front of the upper layer a SID shifts too
pub upper_shifts : (s : SidEntry) (allow : List ℕ) (p : Packet) (place : ChainPlace) → shifts_at s p ≡ true
    → at_upper s allow p place ≡ next_csid s p
upper_shifts s allow p place shifts = rw shifts refl
