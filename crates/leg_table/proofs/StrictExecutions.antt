-- What the execution of a SID gives: a packet with a next segment goes on, lowered; a packet inside is exposed.
use Rattle.std.proofs.Common.{◌≡◌, ℕ, ◌-◌, ◌<◌, ◌≤◌, ◌⊎◌, inl, inr, Bool, true, false, ◌==◌, ◌&&◌, not, nat_le, List, Option, Some, None, IsTrue, slice_get, refl, sym, ◌∙◌, ap, subst, eqb-true}
use Rattle.std.specs.Prelude.{◌↔◌, is_some}
use Rattle.std.proofs.lemmas.Bool.{false≢true, and_parts, and_from, eq-eqb}
use Rattle.std.proofs.lemmas.Bool.Decides.{leb_tells}
use Rattle.srv6_rules.specs.declared.sid.Behaviour.{Behaviour}
use Rattle.srv6_rules.specs.declared.family.Family.{Family}
use Rattle.srv6_rules.specs.declared.reason.Reason.TheVariants as reasons
use Rattle.srv6_rules.specs.declared.sid.SidEntry.{SidEntry}
use Rattle.srv6_rules.specs.Behaviours.{goes_on, behaviour_policy}
use Rattle.srv6_rules.specs.Packet.{Packet, V6, read_as}
use Rattle.srv6_rules.specs.Endpoint.{Endpoint, Onward, Exposed, Delivered, Refused, at_sid}
use Rattle.net_model.specs.Network.{Network}
use Rattle.walk_rules.specs.declared.place.Place.{Place}
use Rattle.walk_rules.specs.declared.place.Outcome.{Outcome}
use Rattle.walk_rules.specs.declared.place.Outcome.TheVariants as outcomes
use Rattle.walk_rules.specs.Way.{Way, Into, way_of}
use Rattle.walk_rules.specs.Treatment.{Gave, goes, treated, treated_in, treated_at_sid, onward_at_sid, allow_of, free_step_of as step_of, onward_from, exposed_from, dropped}
use Rattle.walk_rules.proofs.PublicLaws.{onward_each}
use Rattle.intent_reader.specs.declared.intent.Step.{Step}
use Rattle.leg_table.specs.StepMatching.{left_after}
use Rattle.leg_table.specs.AllChoices.{Ends, seen_at}
use Rattle.leg_table.specs.TransitsTerms.{with_hop_limit}
use Rattle.leg_table.specs.PositionSids.{binds, takes_step}
use Rattle.leg_table.specs.StrictLegsTerms.{takes_on, takes_out, has_next_segment, has_packet_inside, is_again, is_hand, is_left, stage_executes, stage_exposes}
use Rattle.leg_table.proofs.HopLimits.{GoesOn, Moves, steps_on, shows_inside}

-- a SID that takes a step binds no policy
pub binds_none : (s : SidEntry) → binds s ≡ false → behaviour_policy s.behaviour ≡ None
binds_none s e = none (behaviour_policy s.behaviour) e
  where
    none : (o : Option ℕ) → is_some o ≡ false → o ≡ None
    none None e = refl
    none (Some number) e = absurd (false≢true (sym e))

pub step_parts : (s : SidEntry) → takes_step s ≡ true → (goes_on s ≡ true) × (binds s ≡ false)
step_parts s takes =
    let parts = and_parts (goes_on s) (not (binds s)) takes in
    (parts.0, un (binds s) parts.1)
  where
    un : (b : Bool) → not b ≡ true → b ≡ false
    un false e = refl
    un true e = absurd (false≢true e)

-- a packet that goes on from such a SID is what stays at the node
pub taken_onward : (net : Network) (node n : ℕ) (s : SidEntry) (p q : Packet) → takes_step s ≡ true
    → treated_at_sid net node n s.behaviour p (Onward q) ≡ goes (outcomes.Again n (onward_from n s.behaviour)) (V6 q)
taken_onward net node n s p q takes =
    ap (λ (o : Option ℕ). onward_at_sid net node n s.behaviour p q o) (binds_none s (step_parts s takes).1)

-- the stage at a place from which a packet comes into SID n
pub stage_into : (net : Network) (place : Place) (q : Packet) (n : ℕ) (s : SidEntry) (choice : ℕ)
    → way_of net place q.destination ≡ Into n → slice_get net.sids n ≡ Some s
    → step_of net place (V6 q) choice
    ≡ treated_at_sid net place.node n s.behaviour q (at_sid s (allow_of (slice_get net.nodes place.node)) q)
stage_into net place q n s choice e f =
    ap (λ (w : Way). treated net place.node w q choice) e ∙ ap (λ (o : Option SidEntry). treated_in net place.node n o q) f

-- what an execution names is the SID that the packet came into
module _ (net : Network) (node : ℕ) where
  again_names : (next n : ℕ) (b : Behaviour) (q : Packet) (e : Endpoint)
      → is_again next (treated_at_sid net node n b q e).outcome ≡ true → n ≡ next
  again_names next n b q (Onward r) h =
      onward_each net node n b q r (λ gave. is_again next gave.outcome ≡ true → n ≡ next) (λ plain is. eqb-true n next is)
      (λ number named binds policy fits is. eqb-true n next is) (λ reason is. absurd (false≢true is)) h
  again_names next n b q (Exposed family bytes) h = absurd (false≢true h)
  again_names next n b q (Delivered r) h = absurd (false≢true h)
  again_names next n b q (Refused reason at) h = absurd (false≢true h)

  hand_names : (next n : ℕ) (b : Behaviour) (q : Packet) (e : Endpoint)
      → is_hand next (treated_at_sid net node n b q e).outcome ≡ true → n ≡ next
  hand_names next n b q (Onward r) h =
      onward_each net node n b q r (λ gave. is_hand next gave.outcome ≡ true → n ≡ next) (λ plain is. absurd (false≢true is))
      (λ number named binds policy fits is. absurd (false≢true is)) (λ reason is. absurd (false≢true is)) h
  hand_names next n b q (Exposed family bytes) h = eqb-true n next h
  hand_names next n b q (Delivered r) h = absurd (false≢true h)
  hand_names next n b q (Refused reason at) h = absurd (false≢true h)

  in_again_names : (next n : ℕ) (o : Option SidEntry) (q : Packet) → is_again next (treated_in net node n o q).outcome ≡ true → n ≡ next
  in_again_names next n None q h = absurd (false≢true h)
  in_again_names next n (Some s) q h = again_names next n s.behaviour q (at_sid s (allow_of (slice_get net.nodes node)) q) h

  in_hand_names : (next n : ℕ) (o : Option SidEntry) (q : Packet) → is_hand next (treated_in net node n o q).outcome ≡ true → n ≡ next
  in_hand_names next n None q h = absurd (false≢true h)
  in_hand_names next n (Some s) q h = hand_names next n s.behaviour q (at_sid s (allow_of (slice_get net.nodes node)) q) h

pub step_again_names : (net : Network) (place : Place) (q : Packet) (next n : ℕ) → way_of net place q.destination ≡ Into n
    → is_again next (step_of net place (V6 q) 0).outcome ≡ true → n ≡ next
step_again_names net place q next n e h =
    in_again_names net place.node next n (slice_get net.sids n) q
    (subst (λ (w : Way). is_again next (treated net place.node w q 0).outcome ≡ true) e h)

pub step_hand_names : (net : Network) (place : Place) (q : Packet) (next n : ℕ) → way_of net place q.destination ≡ Into n
    → is_hand next (step_of net place (V6 q) 0).outcome ≡ true → n ≡ next
step_hand_names net place q next n e h =
    in_hand_names net place.node next n (slice_get net.sids n) q
    (subst (λ (w : Way). is_hand next (treated net place.node w q 0).outcome ≡ true) e h)

-- what ends a way by a test holds of the stage
pub Ends_test : (o : Outcome) (t : Bool) → Ends o (IsTrue t) → t ≡ true
Ends_test (outcomes.Send link) t h = absurd h
Ends_test (outcomes.Again n how) t h = h
Ends_test (outcomes.Hand n how family) t h = h
Ends_test outcomes.Local t h = absurd h
Ends_test (outcomes.Drop reason error) t h = absurd h

is_left_is : (left : ℕ) (o : Option ℕ) → is_left left o ≡ true → o ≡ Some left
is_left_is left None h = absurd (false≢true h)
is_left_is left (Some m) h = ap Some (eqb-true m left h)

is_left_from : (left : ℕ) (o : Option ℕ) → o ≡ Some left → is_left left o ≡ true
is_left_from left o e = ap (is_left left) e ∙ eq-eqb left left refl

module _ (net : Network) (place : Place) (p : Packet) (n : ℕ) (s : SidEntry) (ts : List Step) (limit left behind : ℕ)
    (into : way_of net place p.destination ≡ Into n) (there : slice_get net.sids n ≡ Some s) where
  abbrev p' : Packet
  p' = with_hop_limit limit p

  abbrev allow : List ℕ
  allow = allow_of (slice_get net.nodes place.node)

  abbrev stage : Gave
  stage = step_of net place (V6 p') 0

  stage_is : stage ≡ treated_at_sid net place.node n s.behaviour p' (at_sid s allow p')
  stage_is = stage_into net place p' n s 0 into there

  goes_at : has_next_segment net n p ≡ true → (takes_step s ≡ true) × GoesOn (Moves s p)
      (λ allow limit. at_sid s allow (with_hop_limit limit p))
  goes_at on =
      let has = and_parts (takes_step s) _ (ap (λ (o : Option SidEntry). takes_on o p) (sym there) ∙ on) in
      (has.0, steps_on s p has.1)

  abbrev Executes : Gave → Type 0
  Executes gave = Ends gave.outcome (IsTrue (stage_executes net n left behind ts (seen_at place (V6 p') gave)))

  drops : has_next_segment net n p ≡ true → limit ≤ 1 → stage ≡ dropped net place.node reasons.HopLimit 0 (V6 p')
  drops on low = stage_is ∙ ap (treated_at_sid net place.node n s.behaviour p') ((goes_at on).1.low allow limit low)

  goes_on_law : has_next_segment net n p ≡ true → 1 < limit
      → (q : Packet) × (stage ≡ goes (outcomes.Again n (onward_from n s.behaviour)) (V6 q)) × (q.hop_limit ≡ limit - 1)
  goes_on_law on high =
      let has = goes_at on in
      let got = has.1.high allow limit high in (
        got.0,
        stage_is ∙ ap (treated_at_sid net place.node n s.behaviour p') got.1
            ∙ taken_onward net place.node n s p' got.0 has.0,
        got.2,
      )

  -- an execution after which the packet goes on
  pub executes_is : has_next_segment net n p ≡ true
      → Executes stage ↔ (1 < limit) × (left_after net n ts ≡ Some left) × (limit - 1 ≡ behind)
  executes_is on = (λ h. forth h (leb_tells limit 1), λ h. back h)
    where
      forth : Executes stage → ((nat_le limit 1 ≡ true) × (limit ≤ 1)) ⊎ ((nat_le limit 1 ≡ false) × (1 < limit))
          → (1 < limit) × (left_after net n ts ≡ Some left) × (limit - 1 ≡ behind)
      forth h (inl low) = absurd (subst Executes (drops on low.1) h)
      forth h (inr high) =
          let got = goes_on_law on high.1 in
          let e : ((n == n) && (is_left left (left_after net n ts) && (got.0.hop_limit == behind))) ≡ true = subst Executes got.1 h in
          let parts = and_parts (n == n) (is_left left (left_after net n ts) && (got.0.hop_limit == behind)) e in
          let more = and_parts (is_left left (left_after net n ts)) (got.0.hop_limit == behind) parts.1 in
          (high.1, is_left_is left (left_after net n ts) more.0, sym got.2 ∙ eqb-true got.0.hop_limit behind more.1)

      back : (1 < limit) × (left_after net n ts ≡ Some left) × (limit - 1 ≡ behind) → Executes stage
      back h =
          let got = goes_on_law on h.0 in
          subst Executes (sym got.1)
          (and_from (n == n) (is_left left (left_after net n ts) && (got.0.hop_limit == behind)) (eq-eqb n n refl)
          (and_from (is_left left (left_after net n ts)) (got.0.hop_limit == behind)
          (is_left_from left (left_after net n ts) h.1) (eq-eqb got.0.hop_limit behind (got.2 ∙ h.2))))

  abbrev Exposes : Gave → Type 0
  Exposes gave = Ends gave.outcome (IsTrue (stage_exposes net n left behind ts (seen_at place (V6 p') gave)))

  hands_out : has_packet_inside net n p ≡ true
      → (family : Family) × (bytes : List ℕ) × (stage ≡ goes (outcomes.Hand n (exposed_from n s.behaviour) family) (read_as family bytes))
  hands_out on =
      let got = shows_inside s p (ap (λ (o : Option SidEntry). takes_out o p) (sym there) ∙ on) in
      (got.family, got.bytes, stage_is ∙ ap (treated_at_sid net place.node n s.behaviour p') (got.shown allow limit))

  -- an execution that exposes the packet inside
  pub exposes_is : has_packet_inside net n p ≡ true → Exposes stage ↔ (left_after net n ts ≡ Some left) × (limit ≡ behind)
  exposes_is on = (λ h. forth h, λ h. back h)
    where
      forth : Exposes stage → (left_after net n ts ≡ Some left) × (limit ≡ behind)
      forth h =
          let e : ((n == n) && (is_left left (left_after net n ts) && (limit == behind))) ≡ true = subst Exposes (hands_out on).2 h in
          let parts = and_parts (n == n) (is_left left (left_after net n ts) && (limit == behind)) e in
          let more = and_parts (is_left left (left_after net n ts)) (limit == behind) parts.1 in
          (is_left_is left (left_after net n ts) more.0, eqb-true limit behind more.1)

      back : (left_after net n ts ≡ Some left) × (limit ≡ behind) → Exposes stage
      back h =
          subst Exposes (sym (hands_out on).2)
          (and_from (n == n) (is_left left (left_after net n ts) && (limit == behind)) (eq-eqb n n refl)
          (and_from (is_left left (left_after net n ts)) (limit == behind)
          (is_left_from left (left_after net n ts) h.0) (eq-eqb limit behind h.1)))
