-- The depth that is counted by outcomes is the number of packets below.
use Rattle.std.proofs.Common.{◌≡◌, ℕ, zero, suc, ◌+◌, Bool, true, false, ◌&&◌, nat_le, if◌then◌else◌, is_some, List, [], ◌∷◌, length, Option, Some, None, slice_get, refl, ap, subst, arith}
use Rattle.srv6_rules.specs.declared.sid.Behaviour.{Behaviour}
use Rattle.srv6_rules.specs.declared.sid.SidEntry.{SidEntry}
use Rattle.srv6_rules.specs.Behaviours.{behaviour_policy}
use Rattle.srv6_rules.specs.Packet.{Packet, Content, V6, V4, Unreadable}
use Rattle.srv6_rules.specs.Packet4.{Packet4, ttl, destination4}
use Rattle.srv6_rules.specs.Endpoint.{Endpoint, Onward, Exposed, Delivered, Refused, at_sid, at_address}
use Rattle.net_model.specs.declared.parts.NamedPolicy.{NamedPolicy}
use Rattle.net_model.specs.Network.{Network}
use Rattle.walk_rules.specs.declared.place.Place.{Place}
use Rattle.walk_rules.specs.Way.{Way, NoWay, Over, Own, Into, way_of}
use Rattle.walk_rules.specs.Treatment.{Gave, allow_of, treated_at_address, treated4}
use Rattle.walk_rules.specs.Walk.{next_place, decisions}
use Rattle.binding_spec.specs.TunnelStages.{TunnelGave, over, policy_at, is_binding, tunnel_bound, tunnel_onward, tunnel_at_sid, tunnel_in, tunnel_treated, tunnel_step}
use Rattle.binding_spec.specs.TunnelWalks.{TunnelStage, tunnel_walk, depth_after}
use Rattle.tunnel_stages_theory.specs.TunnelWalksTerms.{AreDepths}

-- the packets below are as many as the outcome has it, from those below before
abbrev Counts : Network → List Packet → TunnelGave → Type 0
Counts net below gave = length gave.below ≡ depth_after net (length below) gave.outcome

-- one of two outcomes, by a test
counts_if : (net : Network) (below : List Packet) (b : Bool) (one other : Gave) → Counts net below (over below one)
    → Counts net below (over below other) → Counts net below (over below (if b then one else other))
counts_if net below true one other first second = first
counts_if net below false one other first second = second

counts_own : (net : Network) (node : ℕ) (p : Packet) (below : List Packet) (e : Endpoint)
    → Counts net below (over below (treated_at_address net node p e))
counts_own net node p below (Onward q) = refl
counts_own net node p below (Exposed family bytes) = refl
counts_own net node p below (Delivered q) = refl
counts_own net node p below (Refused reason at) = refl

module _ (net : Network) (node n : ℕ) (p : Packet) (below : List Packet) where
  counts_bound : (b : Behaviour) (q : Packet) (o : Option NamedPolicy) → is_binding net n ≡ true
      → Counts net below (tunnel_bound net node n b p q below o)
  counts_bound b q None binds = refl
  counts_bound b q (Some named) binds = rw binds (omega arith)

  counts_onward : (b : Behaviour) (q : Packet) (x : Option ℕ) → is_binding net n ≡ is_some x
      → Counts net below (tunnel_onward net node n b p q below x)
  counts_onward b q None binds = rw binds refl
  counts_onward b q (Some number) binds = counts_bound b q (slice_get net.policies number) binds

-- the packet that was carried stands there in place of those below
counts_exposed : (net : Network) (node n : ℕ) (b : Behaviour) (p : Packet) (below : List Packet) (e : Endpoint)
    → ((q : Packet) → e ≡ Onward q → Counts net below (tunnel_at_sid net node n b p below (Onward q)))
    → Counts net below (tunnel_at_sid net node n b p below e)
counts_exposed net node n b p below (Onward q) onward = onward q refl
counts_exposed net node n b p [] (Exposed family bytes) onward = refl
counts_exposed net node n b p (q ∷ below) (Exposed family bytes) onward = omega arith
counts_exposed net node n b p below (Delivered q) onward = refl
counts_exposed net node n b p below (Refused reason at) onward = refl

counts_in : (net : Network) (node n : ℕ) (p : Packet) (below : List Packet) (o : Option SidEntry) → slice_get net.sids n ≡ o
    → Counts net below (tunnel_in net node n o p below)
counts_in net node n p below None there = refl
counts_in net node n p below (Some s) there =
    let binds : is_binding net n ≡ is_some (behaviour_policy s.behaviour) = ap (λ o. is_some (policy_at o)) there in
    counts_exposed net node n s.behaviour p below (at_sid s (allow_of (slice_get net.nodes node)) p)
    (λ q e. counts_onward net node n p below s.behaviour q (behaviour_policy s.behaviour) binds)

counts_way : (net : Network) (node : ℕ) (w : Way) (p : Packet) (below : List Packet) (choice : ℕ)
    → Counts net below (tunnel_treated net node w p below choice)
counts_way net node (NoWay reason) p below choice = refl
counts_way net node (Over set lower) p below choice = counts_if net below (lower && nat_le p.hop_limit 1) _ _ refl refl
counts_way net node Own p below choice = counts_own net node p below (at_address p)
counts_way net node (Into n) p below choice = counts_in net node n p below (slice_get net.sids n) refl

counts_way4 : (net : Network) (node : ℕ) (w : Way) (p : Packet4) (below : List Packet) (choice : ℕ)
    → Counts net below (over below (treated4 net node w p choice))
counts_way4 net node (NoWay reason) p below choice = refl
counts_way4 net node (Over set lower) p below choice = counts_if net below (lower && nat_le (ttl p) 1) _ _ refl refl
counts_way4 net node Own p below choice = refl
counts_way4 net node (Into n) p below choice = refl

pub depth_stage : (net : Network) (place : Place) (content : Content) (below : List Packet) (choice : ℕ)
    → let gave = tunnel_step net place content below choice in length gave.below ≡ depth_after net (length below) gave.outcome
depth_stage net place (V6 p) below choice = counts_way net place.node (way_of net place p.destination) p below choice
depth_stage net place (V4 p) below choice = counts_way4 net place.node (way_of net place (destination4 p)) p below choice
depth_stage net place (Unreadable bytes reason) below choice = refl

pub depth_walk : (fuel : ℕ) (net : Network) (place : Option Place) (content : Content) (below : List Packet) (pick : ℕ → ℕ) (taken : ℕ)
    → AreDepths net (length below) (tunnel_walk fuel net place content below pick taken)
unfolding tunnel_walk
depth_walk zero net place content below pick taken = tt
depth_walk (suc more) net None content below pick taken = tt
depth_walk (suc more) net (Some place) content below pick taken =
    let gave : TunnelGave = tunnel_step net place content below (pick taken) in
    let rest : List TunnelStage = tunnel_walk more net (next_place net place gave.outcome) gave.after gave.below pick
    (taken + decisions gave.outcome) in (
      refl,
      subst (λ d. AreDepths net d rest) (depth_stage net place content below (pick taken))
          (depth_walk more net (next_place net place gave.outcome) gave.after gave.below pick (taken + decisions gave.outcome)),
    )
