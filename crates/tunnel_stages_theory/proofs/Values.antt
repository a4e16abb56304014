-- A stage over bytes follows the stage over values.
use Rattle.std.proofs.Common.{◌≡◌, ℕ, ◌≤◌, Bool, true, false, ◌&&◌, nat_le, if◌then◌else◌, List, [], ◌∷◌, length, Option, Some, None, slice_get, refl, sym, ◌∙◌, ap, subst, arith}
use Rattle.srv6_rules.specs.declared.sid.Behaviour.{Behaviour}
use Rattle.srv6_rules.specs.declared.family.Family.{Family}
use Rattle.srv6_rules.specs.declared.family.Family.TheVariants.{V6 as Ipv6}
use Rattle.srv6_rules.specs.declared.reason.Reason.TheVariants as reasons
use Rattle.srv6_rules.specs.declared.sid.SidEntry.{SidEntry}
use Rattle.srv6_rules.specs.Behaviours.{behaviour_policy, behaviour_reduces}
use Rattle.srv6_rules.specs.Packet.{Packet, Content, V6, V4, Unreadable, IsSpellable, spelling, read_as}
use Rattle.srv6_rules.specs.PacketTerms.{IsContent}
use Rattle.srv6_rules.specs.Packet4.{Packet4, ttl, destination4}
use Rattle.srv6_rules.specs.Endpoint.{Endpoint, Onward, Exposed, Delivered, Refused, at_sid, at_address}
use Rattle.srv6_rules.specs.Policies.{most_payload, outer_by}
use Rattle.srv6_rules.proofs.PublicLaws.{made_fits, content_of_spelling_alone, at_sid_spellable}
use Rattle.net_model.specs.declared.parts.NamedPolicy.{NamedPolicy}
use Rattle.net_model.specs.NetworkKeeps.{Keeps}
use Rattle.net_model.specs.Network.{Network}
use Rattle.net_model.proofs.PublicLaws.{sid_suits}
use Rattle.walk_rules.specs.declared.place.Place.{Place}
use Rattle.walk_rules.specs.declared.place.Outcome.TheVariants as outcomes
use Rattle.walk_rules.specs.Way.{Way, NoWay, Over, Own, Into, way_of}
use Rattle.walk_rules.specs.Treatment.{Gave, allow_of, dropped, goes, lowered, onward_from, exposed_from, pushed_at_sid, bound_at_sid, onward_at_sid, treated_at_address, treated_at_sid, treated_in, treated, treated4, free_step_of, member_of}
use Rattle.binding_spec.specs.TunnelStages.{TunnelGave, over, tunnel_bound, tunnel_onward, tunnel_at_sid, tunnel_in, tunnel_treated, tunnel_step}
use Rattle.binding_spec.specs.TunnelLayers.{PushFits, spelled, spelled_content}
use Rattle.tunnel_stages_theory.specs.TunnelLayersTerms.{AreLayers, AreLayersOf, goes_further}
use Rattle.tunnel_stages_theory.proofs.TunnelStageSpelled.{Follows, spelled_destination, spelled_hop_limit, spelled_lowered, content_alone, layers_alone, layers_lowered, header_policy, policy_spelled, follows_sid}

-- what is given of bytes is what is given of values, where nothing is taken away and the payload fits
abbrev pub AsValues : List Packet → TunnelGave → Gave → Type 0
AsValues under deep real =
    goes_further deep.outcome ≡ true → PushFits under deep
    → (real ≡ goes deep.outcome (spelled_content deep.after deep.below)) × AreLayersOf deep.after deep.below

module _ (net : Network) (node n : ℕ) (b : Behaviour) (p r : Packet) where
  -- ---- a packet that goes on from a SID

  module _ (q : Packet) (below : List Packet) (ok : IsSpellable (spelled q below)) (layers : AreLayers q below) where
    as_pushed : (named : NamedPolicy)
        → AsValues below (tunnel_bound net node n b p q below (Some named)) (bound_at_sid net node n b r (spelled q below) (Some named))
    as_pushed named further fits =
        let reduces : Bool = behaviour_reduces b in
        let made : Packet = outer_by named.policy reduces Ipv6 (spelling (spelled q below)) in
        let same = policy_spelled named.policy reduces q below in
        let short : length made.payload ≤ most_payload = subst (λ (x : Packet). length x.payload ≤ most_payload) (sym same)
        (fits (omega arith)) in (
          ap (pushed_at_sid net node n b r) (made_fits made short)
              ∙ ap (λ x. goes (outcomes.Again n (onward_from n b)) (V6 x)) same,
          (header_policy named.policy reduces, ok, layers),
        )

    as_bound : (o : Option NamedPolicy) → AsValues below (tunnel_bound net node n b p q below o)
        (bound_at_sid net node n b r (spelled q below) o)
    as_bound None further fits = cc
    as_bound (Some named) further fits = as_pushed named further fits

    as_onward : (x : Option ℕ) → AsValues below (tunnel_onward net node n b p q below x) (onward_at_sid net node n b r (spelled q below) x)
    as_onward None further fits = (refl, layers)
    as_onward (Some number) further fits = as_bound (slice_get net.policies number) further fits

  -- ---- what a SID exposes

  as_exposed : (q : Packet) (below : List Packet) (family : Family) → IsSpellable (spelled q below) → AreLayers q below → family ≡ Ipv6
      → AsValues (q ∷ below) (over below (goes (outcomes.Hand n (exposed_from n b) family) (V6 q)))
      (treated_at_sid net node n b r (Exposed Ipv6 (spelling (spelled q below))))
  as_exposed q below family ok layers v6 further fits = (
    ap (goes (outcomes.Hand n (exposed_from n b) Ipv6)) (content_of_spelling_alone (spelled q below) ok)
        ∙ ap (λ f. goes (outcomes.Hand n (exposed_from n b) f) (V6 (spelled q below))) (sym v6),
    layers,
  )

  as_read : (family : Family) (bytes : List ℕ)
      → AsValues [] (over [] (goes (outcomes.Hand n (exposed_from n b) family) (read_as family bytes)))
      (treated_at_sid net node n b r (Exposed family bytes))
  as_read family bytes further fits = (
    ap (goes (outcomes.Hand n (exposed_from n b) family)) (sym (content_alone (read_as family bytes))),
    layers_alone (read_as family bytes),
  )

  as_endpoint : (below : List Packet) (e real : Endpoint) → Follows below e real → AreLayers p below
      → ((q : Packet) → real ≡ Onward q → IsSpellable q)
      → AsValues below (tunnel_at_sid net node n b p below e) (treated_at_sid net node n b r real)
  as_endpoint below (Onward q) real follows layers ok =
      subst (λ x. AsValues below (tunnel_at_sid net node n b p below (Onward q)) (treated_at_sid net node n b r x)) (sym follows.0)
      (as_onward q below (ok (spelled q below) follows.0) follows.1 (behaviour_policy b))
  as_endpoint [] (Exposed family bytes) real follows layers ok =
      subst (λ x. AsValues [] (tunnel_at_sid net node n b p [] (Exposed family bytes)) (treated_at_sid net node n b r x)) (sym follows)
      (as_read family bytes)
  as_endpoint (q ∷ below) (Exposed family bytes) real follows layers ok =
      subst (λ x. AsValues (q ∷ below) (tunnel_at_sid net node n b p (q ∷ below) (Exposed family bytes)) (treated_at_sid net node n b r x))
      (sym follows.0) (as_exposed q below family layers.1 layers.2 follows.1)
  as_endpoint below (Delivered q) real follows layers ok = λ further fits. cc
  as_endpoint below (Refused reason at) real follows layers ok = λ further fits. cc

-- ---- the other ways

as_own : (net : Network) (node : ℕ) (p : Packet) (below : List Packet) (e : Endpoint) (real : Gave)
    → AsValues below (over below (treated_at_address net node p e)) real
as_own net node p below (Onward q) real further fits = cc
as_own net node p below (Exposed family bytes) real further fits = cc
as_own net node p below (Delivered q) real further fits = cc
as_own net node p below (Refused reason at) real further fits = cc

as_if : (b : Bool) (below : List Packet) (one other real_one real_other : Gave) → AsValues below (over below one) real_one
    → AsValues below (over below other) real_other
    → AsValues below (over below (if b then one else other)) (if b then real_one else real_other)
as_if true below one other real_one real_other first second = first
as_if false below one other real_one real_other first second = second

as_sent : (net : Network) (node : ℕ) (set : List ℕ) (lower : Bool) (p : Packet) (below : List Packet) (choice : ℕ) → AreLayers p below
    → AsValues below (over below (treated net node (Over set lower) p choice)) (treated net node (Over set lower) (spelled p below) choice)
as_sent net node set lower p below choice layers =
    let r : Packet = spelled p below in
    subst (λ h. AsValues below (over below (treated net node (Over set lower) p choice))
    (if lower && nat_le h 1 then dropped net node reasons.HopLimit 0 (V6 r)
    else goes (outcomes.Send (member_of set choice)) (V6 (lowered lower r)))) (sym (spelled_hop_limit p below))
    (as_if (lower && nat_le p.hop_limit 1) below _ _ _ _ (λ further fits. cc)
    (λ further fits. (
      ap (λ x. goes (outcomes.Send (member_of set choice)) (V6 x)) (sym (spelled_lowered lower p below)),
      layers_lowered lower p below layers,
    )))

module _ (net : Network) (node : ℕ) (keeps : Keeps net) (p : Packet) (below : List Packet) (layers : AreLayers p below)
    (ok : IsSpellable (spelled p below)) where
  as_in : (n : ℕ) (o : Option SidEntry) → slice_get net.sids n ≡ o
      → AsValues below (tunnel_in net node n o p below) (treated_in net node n o (spelled p below))
  as_in n None there = λ further fits. cc
  as_in n (Some s) there =
      let allow : List ℕ = allow_of (slice_get net.nodes node) in
      as_endpoint net node n s.behaviour p (spelled p below) below (at_sid s allow p) (at_sid s allow (spelled p below))
      (follows_sid s allow p below layers) layers
      (λ q e. at_sid_spellable s allow (spelled p below) q (sid_suits net n s keeps there) ok e)

  as_way : (w : Way) (choice : ℕ) → AsValues below (tunnel_treated net node w p below choice) (treated net node w (spelled p below) choice)
  as_way (NoWay reason) choice = λ further fits. cc
  as_way (Over set lower) choice = as_sent net node set lower p below choice layers
  as_way Own choice = as_own net node p below (at_address p) (treated net node Own (spelled p below) choice)
  as_way (Into n) choice = as_in n (slice_get net.sids n) refl

as_way4 : (net : Network) (node : ℕ) (w : Way) (p : Packet4) (below : List Packet) (choice : ℕ) → below ≡ []
    → AsValues below (over below (treated4 net node w p choice)) (treated4 net node w p choice)
as_way4 net node (NoWay reason) p below choice none = λ further fits. cc
as_way4 net node (Over set lower) p below choice none =
    as_if (lower && nat_le (ttl p) 1) below _ _ _ _ (λ further fits. cc) (λ further fits. (refl, none))
as_way4 net node Own p below choice none = λ further fits. cc
as_way4 net node (Into n) p below choice none = λ further fits. cc

pub as_values : (net : Network) (place : Place) (content : Content) (below : List Packet) (choice : ℕ) → Keeps net
    → AreLayersOf content below → IsContent (spelled_content content below)
    → AsValues below (tunnel_step net place content below choice) (free_step_of net place (spelled_content content below) choice)
as_values net place (V6 p) below choice keeps layers ok =
    subst (λ d. AsValues below (tunnel_step net place (V6 p) below choice)
    (treated net place.node (way_of net place d) (spelled p below) choice))
    (sym (spelled_destination p below)) (as_way net place.node keeps p below layers ok (way_of net place p.destination) choice)
as_values net place (V4 p) below choice keeps layers ok =
    as_way4 net place.node (way_of net place (destination4 p)) p below choice layers
as_values net place (Unreadable bytes reason) below choice keeps layers ok = λ further fits. cc
