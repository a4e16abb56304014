-- Steps that follow one another have links that lead to one place.
use Rattle.std.proofs.Common.{◌≡◌, ℕ, Bool, true, false, ◌&&◌, nat_le, if◌then◌else◌, List, [], ◌∷◌, slice_get, Option, Some, None, IsTrue, sym, ap, ◌∙◌}
use Rattle.std.specs.Prelude.{is_some}
use Rattle.std.specs.Option.{option_and_then}
use Rattle.std.proofs.lemmas.Bool.{false≢true}
use Rattle.srv6_rules.specs.declared.sid.Behaviour.{Behaviour}
use Rattle.srv6_rules.specs.declared.sid.SidEntry.{SidEntry}
use Rattle.srv6_rules.specs.Behaviours.{behaviour_policy}
use Rattle.srv6_rules.specs.Packet.{Packet}
use Rattle.srv6_rules.specs.Endpoint.{Endpoint, Onward, Exposed, Delivered, Refused, at_sid}
use Rattle.net_model.specs.declared.parts.NamedPolicy.{NamedPolicy}
use Rattle.net_model.specs.Network.{Network}
use Rattle.walk_rules.specs.declared.place.Place.{Place}
use Rattle.walk_rules.specs.Way.{Way, NoWay, Over, Own, Into, way_of}
use Rattle.walk_rules.specs.Treatment.{allow_of, lowered}
use Rattle.walk_rules.specs.Walk.{far_end, arrival}
use Rattle.intent_reader.specs.IntentRules.{node_after, stand_after}
use Rattle.intent_reader.specs.declared.intent.Step.{Step}
use Rattle.intent_reader.specs.declared.intent.Step.TheVariants.{Links, Function, Reach}
use Rattle.leg_table.proofs.StrictLinks.{far_end_is, link_ends, step_opens}
use Rattle.binding_spec.specs.Machines.{is_in}
use Rattle.binding_spec.specs.TunnelPackets.{Loses}
use Rattle.tunnel_walks_theory.specs.TunnelPacketsTerms.{LooksOn, IsJoined, AreJoined}
use Rattle.binding_spec.specs.NetworkWorld.{leads, look_links, look_bound, look_onward, look_at_sid, look_in, look_by, step_events, world}

module _ (net : Network) (t : Step) where
  -- links that lie in the step lead to one place
  abbrev OnePlace : Type 0
  OnePlace =
      (place : Place) (k l : ℕ) → IsTrue (is_in step_events t k) → IsTrue (is_in step_events t l)
      → leads net place k ≡ leads net place l

  links_on : OnePlace → (place : Place) (set : List ℕ) (p : Packet) → LooksOn step_events t (look_links net place set p)
  links_on one place [] p = one place
  links_on one place (link ∷ links) p = one place

  over_on : OnePlace → (place : Place) (set : List ℕ) (p : Packet) (b : Bool)
      → LooksOn step_events t (if b then Loses else look_links net place set p)
  over_on one place set p true = tt
  over_on one place set p false = links_on one place set p

  bound_on : (place : Place) (n : ℕ) (b : Behaviour) (q : Packet) (o : Option NamedPolicy)
      → LooksOn step_events t (look_bound net place n b q o)
  bound_on place n b q None = tt
  bound_on place n b q (Some named) = tt

  onward_on : (place : Place) (n : ℕ) (b : Behaviour) (q : Packet) (o : Option ℕ) → LooksOn step_events t (look_onward net place n b q o)
  onward_on place n b q None = tt
  onward_on place n b q (Some number) = bound_on place n b q (slice_get net.policies number)

  sid_on : (place : Place) (n : ℕ) (b : Behaviour) (e : Endpoint) → LooksOn step_events t (look_at_sid net place n b e)
  sid_on place n b (Onward q) = onward_on place n b q (behaviour_policy b)
  sid_on place n b (Exposed family bytes) = tt
  sid_on place n b (Delivered q) = tt
  sid_on place n b (Refused reason at) = tt

  in_on : (place : Place) (n : ℕ) (p : Packet) (o : Option SidEntry) → LooksOn step_events t (look_in net place n o p)
  in_on place n p None = tt
  in_on place n p (Some s) = sid_on place n s.behaviour (at_sid s (allow_of (slice_get net.nodes place.node)) p)

  way_on_law : OnePlace → (place : Place) (p : Packet) (way : Way) → LooksOn step_events t (look_by net place way p)
  way_on_law one place p (NoWay reason) = tt
  way_on_law one place p (Over set lower) = over_on one place set (lowered lower p) (lower && nat_le p.hop_limit 1)
  way_on_law one place p Own = tt
  way_on_law one place p (Into n) = in_on place n p (slice_get net.sids n)

  look_joined : OnePlace → (limit : ℕ) → IsJoined (world net limit) t
  look_joined one limit place p = way_on_law one place p (way_of net place p.destination)

rest_stands : (net : Network) (o : Option ℕ) (ts : List Step) → is_some (option_and_then (λ next. stand_after net next ts) o) ≡ true
    → (to : ℕ) × (is_some (stand_after net to ts) ≡ true)
rest_stands net None ts h = absurd (false≢true h)
rest_stands net (Some to) ts h = (to, h)

pub steps_joined : (net : Network) (limit node : ℕ) (ts : List Step) → is_some (stand_after net node ts) ≡ true
    → AreJoined (world net limit) ts
steps_joined net limit node [] stands = tt
steps_joined net limit node (Links set ∷ ts) stands =
    let opened = step_opens net node set ts stands in
    let end : (k : ℕ) → IsTrue (is_in step_events (Links set) k) → far_end (slice_get net.links k) ≡ Some opened.0 = λ k here.
    far_end_is (slice_get net.links k) ∙ link_ends net opened.0 set k opened.1 here in (
      look_joined net (Links set) (λ place k l mine yours. ap (λ o. arrival o place) (end k mine ∙ sym (end l yours))) limit,
      steps_joined net limit opened.0 ts opened.2,
    )
steps_joined net limit node (Function sid ∷ ts) stands =
    let rest = rest_stands net (node_after net node (Function sid)) ts stands in
    (look_joined net (Function sid) (λ place k l mine yours. absurd (false≢true mine)) limit, steps_joined net limit rest.0 ts rest.1)
steps_joined net limit node (Reach reached ∷ ts) stands =
    let rest = rest_stands net (node_after net node (Reach reached)) ts stands in
    (look_joined net (Reach reached) (λ place k l mine yours. absurd (false≢true mine)) limit, steps_joined net limit rest.0 ts rest.1)
