-- What the outcome of a stage tells of a packet that comes into a SID: that it goes on, or that the packet inside is exposed.
use Rattle.std.proofs.Common.{◌≡◌, ℕ, ◌-◌, ◌<◌, ◌≤◌, ◌⊎◌, inl, inr, Bool, true, false, nat_le, List, Option, Some, slice_get, refl, sym, ◌∙◌, ap, arith, eqb-true}
use Rattle.std.proofs.lemmas.Bool.{false≢true, and_parts, eq-eqb}
use Rattle.std.proofs.lemmas.Bool.Decides.{leb_tells}
use Rattle.srv6_rules.specs.declared.family.Family.{Family}
use Rattle.srv6_rules.specs.declared.reason.Reason.TheVariants as reasons
use Rattle.srv6_rules.specs.declared.sid.SidEntry.{SidEntry}
use Rattle.srv6_rules.specs.Packet.{Packet, V6, read_as}
use Rattle.srv6_rules.specs.Endpoint.{at_sid}
use Rattle.net_model.specs.Network.{Network}
use Rattle.walk_rules.specs.declared.place.How.{How}
use Rattle.walk_rules.specs.declared.place.Place.{Place}
use Rattle.walk_rules.specs.declared.place.Outcome.{Outcome}
use Rattle.walk_rules.specs.declared.place.Outcome.TheVariants as outcomes
use Rattle.walk_rules.specs.Way.{Into, way_of}
use Rattle.walk_rules.specs.Treatment.{Gave, goes, dropped, treated_at_sid, allow_of, free_step_of, onward_from, exposed_from}
use Rattle.walk_rules.proofs.PublicLaws.{free_again, free_hand}
use Rattle.leg_table.specs.TransitsTerms.{with_hop_limit}
use Rattle.leg_table.specs.PositionSids.{takes_step}
use Rattle.leg_table.specs.StrictLegsTerms.{takes_on, takes_out, has_next_segment, has_packet_inside, is_again, is_hand}
use Rattle.leg_table.proofs.StrictExecutions.{stage_into, taken_onward}
use Rattle.leg_table.proofs.HopLimits.{GoesOn, Moves, steps_on, shows_inside}

-- an outcome by which SID n is executed, for a packet whose hop limit can be lowered so many times more there
pub record IsTest (net : Network) (p : Packet) (n : ℕ) (executes : ℕ → Outcome → Bool) (lowers : ℕ) : Type 0 where
  pub tells : (place : Place) (hop choice : ℕ)
      → executes n (free_step_of net place (V6 (with_hop_limit hop p)) choice).outcome ≡ true
      → (way_of net place p.destination ≡ Into n) × (lowers ≤ hop - 1)
  pub told : (place : Place) (hop choice : ℕ) → way_of net place p.destination ≡ Into n → lowers ≤ hop - 1
      → executes n (free_step_of net place (V6 (with_hop_limit hop p)) choice).outcome ≡ true

same_packet : (p q : Packet) → V6 p ≡ V6 q → p ≡ q
same_packet p q e = cc

-- an outcome that names SID n, taken apart
again_named : (n : ℕ) (o : Outcome) → is_again n o ≡ true → (how : How) × (o ≡ outcomes.Again n how)
again_named n (outcomes.Again m how) h = (how, ap (λ (k : ℕ). outcomes.Again k how) (eqb-true m n h))
again_named n (outcomes.Hand m how family) h = absurd (false≢true h)
again_named n (outcomes.Send link) h = absurd (false≢true h)
again_named n outcomes.Local h = absurd (false≢true h)
again_named n (outcomes.Drop reason error) h = absurd (false≢true h)

hand_named : (n : ℕ) (o : Outcome) → is_hand n o ≡ true → (how : How) × (family : Family) × (o ≡ outcomes.Hand n how family)
hand_named n (outcomes.Again m how) h = absurd (false≢true h)
hand_named n (outcomes.Hand m how family) h = (how, family, ap (λ (k : ℕ). outcomes.Hand k how family) (eqb-true m n h))
hand_named n (outcomes.Send link) h = absurd (false≢true h)
hand_named n outcomes.Local h = absurd (false≢true h)
hand_named n (outcomes.Drop reason error) h = absurd (false≢true h)

module _ (net : Network) (p : Packet) (n : ℕ) (s : SidEntry) (there : slice_get net.sids n ≡ Some s) (place : Place) (hop choice : ℕ) where
  abbrev stage : Gave
  stage = free_step_of net place (V6 (with_hop_limit hop p)) choice

  abbrev allow : List ℕ
  allow = allow_of (slice_get net.nodes place.node)

  stage_is : way_of net place p.destination ≡ Into n
      → stage ≡ treated_at_sid net place.node n s.behaviour (with_hop_limit hop p) (at_sid s allow (with_hop_limit hop p))
  stage_is into = stage_into net place (with_hop_limit hop p) n s choice into there

  goes_at : has_next_segment net n p ≡ true
      → (takes_step s ≡ true) × GoesOn (Moves s p) (λ allow limit. at_sid s allow (with_hop_limit limit p))
  goes_at on =
      let has = and_parts (takes_step s) _ (ap (λ (o : Option SidEntry). takes_on o p) (sym there) ∙ on) in
      (has.0, steps_on s p has.1)

  drops : has_next_segment net n p ≡ true → way_of net place p.destination ≡ Into n → hop ≤ 1
      → stage ≡ dropped net place.node reasons.HopLimit 0 (V6 (with_hop_limit hop p))
  drops on into low =
      stage_is into ∙ ap (treated_at_sid net place.node n s.behaviour (with_hop_limit hop p)) ((goes_at on).1.low allow hop low)

  goes_on_law : has_next_segment net n p ≡ true → way_of net place p.destination ≡ Into n → 1 < hop
      → (q : Packet) × (stage ≡ goes (outcomes.Again n (onward_from n s.behaviour)) (V6 q))
  goes_on_law on into high =
      let has = goes_at on in
      let got = has.1.high allow hop high in (
        got.0,
        stage_is into ∙ ap (treated_at_sid net place.node n s.behaviour (with_hop_limit hop p)) got.1
            ∙ taken_onward net place.node n s (with_hop_limit hop p) got.0 has.0,
      )

  hands_out : has_packet_inside net n p ≡ true → way_of net place p.destination ≡ Into n
      → (family : Family) × (bytes : List ℕ) × (stage ≡ goes (outcomes.Hand n (exposed_from n s.behaviour) family) (read_as family bytes))
  hands_out on into =
      let got = shows_inside s p (ap (λ (o : Option SidEntry). takes_out o p) (sym there) ∙ on) in (
        got.family,
        got.bytes,
        stage_is into ∙ ap (treated_at_sid net place.node n s.behaviour (with_hop_limit hop p)) (got.shown allow hop),
      )

  again_tells : has_next_segment net n p ≡ true → is_again n stage.outcome ≡ true
      → (way_of net place p.destination ≡ Into n) × (1 ≤ hop - 1)
  again_tells on h =
      let named = again_named n stage.outcome h in
      let x = free_again net place (V6 (with_hop_limit hop p)) choice n named.0 named.1 in
      let q : with_hop_limit hop p ≡ x.packet = same_packet (with_hop_limit hop p) x.packet x.is_packet in
      let into : way_of net place p.destination ≡ Into n = ap (λ (r : Packet). way_of net place r.destination) q ∙ x.way in
      (into, by_limit into (leb_tells hop 1))
    where
      by_limit : way_of net place p.destination ≡ Into n → ((nat_le hop 1 ≡ true) × (hop ≤ 1)) ⊎ ((nat_le hop 1 ≡ false) × (1 < hop))
          → 1 ≤ hop - 1
      by_limit into (inl low) = absurd (false≢true (sym (ap (λ (g : Gave). is_again n g.outcome) (drops on into low.1)) ∙ h))
      by_limit into (inr high) = omega (arith, high.1)

  hand_tells : is_hand n stage.outcome ≡ true → way_of net place p.destination ≡ Into n
  hand_tells h =
      let named = hand_named n stage.outcome h in
      let x = free_hand net place (V6 (with_hop_limit hop p)) choice n named.0 named.1 named.2 in
      let q : with_hop_limit hop p ≡ x.packet = same_packet (with_hop_limit hop p) x.packet x.is_packet in
      ap (λ (r : Packet). way_of net place r.destination) q ∙ x.way

  again_told : has_next_segment net n p ≡ true → way_of net place p.destination ≡ Into n → 1 ≤ hop - 1 → is_again n stage.outcome ≡ true
  again_told on into high =
      let got = goes_on_law on into (omega (arith, high)) in
      ap (λ (g : Gave). is_again n g.outcome) got.1 ∙ eq-eqb n n refl

  hand_told : has_packet_inside net n p ≡ true → way_of net place p.destination ≡ Into n → is_hand n stage.outcome ≡ true
  hand_told on into = ap (λ (g : Gave). is_hand n g.outcome) (hands_out on into).2 ∙ eq-eqb n n refl

-- a packet with a next segment goes on, with one lowering at the SID
pub again_test : (net : Network) (p : Packet) (n : ℕ) (s : SidEntry) → slice_get net.sids n ≡ Some s → has_next_segment net n p ≡ true
    → IsTest net p n is_again 1
again_test net p n s there on =
    record {
      tells = λ place hop choice h. again_tells net p n s there place hop choice on h;
      told = λ place hop choice into high. again_told net p n s there place hop choice on into high;
    }

-- the packet inside is exposed, with no lowering there
pub hand_test : (net : Network) (p : Packet) (n : ℕ) (s : SidEntry) → slice_get net.sids n ≡ Some s → has_packet_inside net n p ≡ true
    → IsTest net p n is_hand 0
hand_test net p n s there on =
    record {
      tells = λ place hop choice h. (hand_tells net p n s there place hop choice h, omega arith);
      told = λ place hop choice into high. hand_told net p n s there place hop choice on into;
    }
