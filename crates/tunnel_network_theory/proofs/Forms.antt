-- A node does the same with packets that differ in their hop limit alone, but that it drops what cannot be lowered.
use Rattle.std.proofs.Common.{◌≡◌, ℕ, ◌-◌, ◌<◌, Bool, true, false, nat_le, if◌then◌else◌, List, [], ◌∷◌, slice_get, Option, Some, None, refl, sym, ap, ◌∙◌}
use Rattle.std.specs.Prelude.{◌↔◌}
use Rattle.intent_reader.specs.declared.intent.Step.{Step}
use Rattle.srv6_rules.specs.declared.sid.Behaviour.{Behaviour}
use Rattle.srv6_rules.specs.declared.reason.Reason.TheVariants as reasons
use Rattle.srv6_rules.specs.declared.sid.SidEntry.{SidEntry}
use Rattle.srv6_rules.specs.Behaviours.{behaviour_policy}
use Rattle.srv6_rules.specs.Packet.{Packet}
use Rattle.srv6_rules.specs.Endpoint.{Endpoint, Onward, Exposed, Delivered, Refused, at_sid}
use Rattle.net_model.specs.declared.parts.NamedPolicy.{NamedPolicy}
use Rattle.net_model.specs.Network.{Network}
use Rattle.walk_rules.specs.declared.place.Place.{Place}
use Rattle.walk_rules.specs.Treatment.{allow_of}
use Rattle.walk_rules.specs.Way.{Way, NoWay, Over, Own, Into, way_of}
use Rattle.leg_table.specs.TransitsTerms.{with_hop_limit}
use Rattle.outer_header_theory.specs.HopLimits.{Course, GoesOn, IsShown, EndsThere, Takes, IsEnd, at_hop}
use Rattle.outer_header_theory.proofs.HopLimitLaws.{one_course}
use Rattle.binding_spec.specs.OwnHands.{most_stages}
use Rattle.binding_spec.specs.TunnelPackets.{Loses}
use Rattle.tunnel_walks_theory.specs.TunnelPacketsTerms.{AreJoined}
use Rattle.tunnel_walks_theory.specs.HopNeeds.{Forms, look_of}
use Rattle.tunnel_walks_theory.proofs.PublicLaws.{need}
use Rattle.tunnel_network_theory.proofs.NetworkHanding.{hands, always_from}
use Rattle.binding_spec.specs.NetworkWorld.{look_bound, look_onward, look_at_sid, look_in, look_by, look_at, world}
use Rattle.tunnel_network_theory.specs.NetworkWalks.{AlwaysHandsFrom}
use Rattle.tunnel_network_theory.specs.HopLimitsAlike.{of_hop_limit, kind_links, kind_bound, kind_onward, kind_at_sid, kind_in, kind_by, kind_at}

module _ (net : Network) (place : Place) where
  -- a packet that ends at a SID
  lost_look : (n : ℕ) (b : Behaviour) (x : Endpoint) → IsEnd x → look_at_sid net place n b x ≡ Loses
  lost_look n b (Onward q) end = absurd end
  lost_look n b (Exposed family bytes) end = absurd end
  lost_look n b (Delivered q) end = refl
  lost_look n b (Refused reason at) end = refl

  lost_kind : (n hop : ℕ) (b : Behaviour) (x : Endpoint) → IsEnd x → look_of of_hop_limit (kind_at_sid net place n b x) hop ≡ Loses
  lost_kind n hop b (Onward q) end = absurd end
  lost_kind n hop b (Exposed family bytes) end = absurd end
  lost_kind n hop b (Delivered q) end = refl
  lost_kind n hop b (Refused reason at) end = refl

  -- what goes on
  bound_high : (n hop : ℕ) (b : Behaviour) (form : Packet) (o : Option NamedPolicy) → nat_le hop 1 ≡ false
      → look_bound net place n b (with_hop_limit (hop - 1) form) o
      ≡ look_of of_hop_limit (kind_bound net place n b (with_hop_limit 1 form) o) hop
  bound_high n hop b form None high = refl
  bound_high n hop b form (Some named) high =
      sym (ap (λ c. if c then Loses else look_bound net place n b (with_hop_limit (hop - 1) form) (Some named)) high)

  onward_high : (n hop : ℕ) (b : Behaviour) (form : Packet) (o : Option ℕ) → nat_le hop 1 ≡ false
      → look_onward net place n b (with_hop_limit (hop - 1) form) o
      ≡ look_of of_hop_limit (kind_onward net place n b (with_hop_limit 1 form) o) hop
  onward_high n hop b form None high =
      sym (ap (λ c. if c then Loses else look_onward net place n b (with_hop_limit (hop - 1) form) None) high)
  onward_high n hop b form (Some number) high = bound_high n hop b form (slice_get net.policies number) high

  bound_low : (n hop : ℕ) (b : Behaviour) (form : Packet) (o : Option NamedPolicy) → nat_le hop 1 ≡ true
      → Loses ≡ look_of of_hop_limit (kind_bound net place n b (with_hop_limit 1 form) o) hop
  bound_low n hop b form None low = refl
  bound_low n hop b form (Some named) low =
      sym (ap (λ c. if c then Loses else look_bound net place n b (with_hop_limit (hop - 1) form) (Some named)) low)

  onward_low : (n hop : ℕ) (b : Behaviour) (form : Packet) (o : Option ℕ) → nat_le hop 1 ≡ true
      → Loses ≡ look_of of_hop_limit (kind_onward net place n b (with_hop_limit 1 form) o) hop
  onward_low n hop b form None low =
      sym (ap (λ c. if c then Loses else look_onward net place n b (with_hop_limit (hop - 1) form) None) low)
  onward_low n hop b form (Some number) low = bound_low n hop b form (slice_get net.policies number) low

  sid_shows : (n hop : ℕ) (s : SidEntry) (allow : List ℕ) (form : Packet) (course : Course)
      → ((i : ℕ) → Takes course i (at_sid s allow (at_hop i form)))
      → look_at_sid net place n s.behaviour (at_sid s allow (with_hop_limit hop form))
      ≡ look_of of_hop_limit (kind_at_sid net place n s.behaviour (at_sid s allow (with_hop_limit 2 form))) hop
  sid_shows n hop s allow form (GoesOn q) takes =
      ap (look_at_sid net place n s.behaviour) (takes hop) ∙ by_hop (nat_le hop 1) refl
      ∙ sym (ap (λ x. look_of of_hop_limit (kind_at_sid net place n s.behaviour x) hop) (takes 2))
    where
      by_hop : (c : Bool) → nat_le hop 1 ≡ c
          → look_at_sid net place n s.behaviour (if c then Refused reasons.HopLimit 0 else Onward (at_hop (hop - 1) q))
          ≡ look_of of_hop_limit (kind_at_sid net place n s.behaviour (Onward (at_hop 1 q))) hop
      by_hop true low = onward_low n hop s.behaviour q (behaviour_policy s.behaviour) low
      by_hop false high = onward_high n hop s.behaviour q (behaviour_policy s.behaviour) high
  sid_shows n hop s allow form (IsShown family bytes) takes =
      ap (look_at_sid net place n s.behaviour) (takes hop)
      ∙ sym (ap (λ y. look_of of_hop_limit (kind_at_sid net place n s.behaviour y) hop) (takes 2))
  sid_shows n hop s allow form EndsThere takes =
      lost_look n s.behaviour (at_sid s allow (with_hop_limit hop form)) (takes hop)
      ∙ sym (lost_kind n hop s.behaviour (at_sid s allow (with_hop_limit 2 form)) (takes 2))

  in_shows : (n hop : ℕ) (form : Packet) (o : Option SidEntry)
      → look_in net place n o (with_hop_limit hop form) ≡ look_of of_hop_limit (kind_in net place n o form) hop
  in_shows n hop form None = refl
  in_shows n hop form (Some s) =
      let allow = allow_of (slice_get net.nodes place.node) in
      let course = one_course s allow form in
      sid_shows n hop s allow form course.0 course.1

  over_shows : (hop : ℕ) (form : Packet) (set : List ℕ) (lower : Bool)
      → look_by net place (Over set lower) (with_hop_limit hop form) ≡ look_of of_hop_limit (kind_links net place set lower form) hop
  over_shows hop form [] true = refl
  over_shows hop form (link ∷ links) true = refl
  over_shows hop form [] false = refl
  over_shows hop form (link ∷ links) false = refl

  way_shows : (hop : ℕ) (form : Packet) (way : Way)
      → look_by net place way (with_hop_limit hop form) ≡ look_of of_hop_limit (kind_by net place way form) hop
  way_shows hop form (NoWay reason) = refl
  way_shows hop form (Over set lower) = over_shows hop form set lower
  way_shows hop form Own = refl
  way_shows hop form (Into n) = in_shows n hop form (slice_get net.sids n)

  pub look_shows : (form : Packet) (hop : ℕ)
      → look_at net place (with_hop_limit hop form) ≡ look_of of_hop_limit (kind_at net place form) hop
  look_shows form hop = way_shows hop form (way_of net place form.destination)

abbrev pub network_forms : (net : Network) (limit : ℕ) → Forms (world net limit) Packet
network_forms net limit =
    record { packet = of_hop_limit; kind = kind_at net; shows = λ place form hop some. look_shows net place form hop }

-- ---- the need

pub hands_need : (net : Network) (ts : List Step) (place : Place) (form : Packet) (hop : ℕ) → AreJoined (world net most_stages) ts → 0 < hop
    → AlwaysHandsFrom net ts place (with_hop_limit hop form)
    → (n : ℕ) × ((other : ℕ) → 0 < other → (n < other) ↔ AlwaysHandsFrom net ts place (with_hop_limit other form))
hands_need net ts place form hop joined some all =
    let w = world net most_stages in
    let least = need w (network_forms net most_stages) ts place form hop joined some (hands net ts place (with_hop_limit hop form) all) in (
      least.0,
      λ other more. (
        λ high. always_from net ts place (with_hop_limit other form) ((least.1 other more).0 high),
        λ every. (least.1 other more).1 (hands net ts place (with_hop_limit other form) every),
      ),
    )
