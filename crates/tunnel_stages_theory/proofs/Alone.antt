-- Where there is no binding SID nothing is ever below a packet.
use Rattle.std.proofs.Common.{◌≡◌, ℕ, zero, suc, ◌+◌, false, is_some, List, [], ◌∷◌, map, Option, Some, None, slice_get, refl, sym, ◌∙◌, ap}
use Rattle.srv6_rules.specs.declared.sid.Behaviour.{Behaviour}
use Rattle.srv6_rules.specs.declared.sid.SidEntry.{SidEntry}
use Rattle.srv6_rules.specs.Behaviours.{behaviour_policy}
use Rattle.srv6_rules.specs.Packet.{Packet, Content, V6, V4, Unreadable}
use Rattle.srv6_rules.specs.Endpoint.{Endpoint, Onward, Exposed, Delivered, Refused, at_sid}
use Rattle.net_model.specs.Network.{Network}
use Rattle.walk_rules.specs.declared.place.Place.{Place}
use Rattle.walk_rules.specs.Way.{Way, NoWay, Over, Own, Into, way_of}
use Rattle.walk_rules.specs.Treatment.{allow_of, onward_at_sid, treated_at_sid, treated_in, treated, free_step_of}
use Rattle.walk_rules.specs.Walk.{Stage, next_place, decisions, walk_by, free_walk_of}
use Rattle.binding_spec.specs.TunnelStages.{TunnelGave, over, policy_at, tunnel_onward, tunnel_at_sid, tunnel_in, tunnel_treated, tunnel_step}
use Rattle.tunnel_stages_theory.specs.TunnelStagesTerms.{NothingBinds}
use Rattle.binding_spec.specs.TunnelWalks.{TunnelStage, tunnel_walk}
use Rattle.tunnel_stages_theory.specs.TunnelWalksTerms.{alone}

module _ (net : Network) (node n : ℕ) (p : Packet) where
  alone_onward : (b : Behaviour) (q : Packet) (x : Option ℕ) → is_some x ≡ false
      → tunnel_onward net node n b p q [] x ≡ over [] (onward_at_sid net node n b p q x)
  alone_onward b q None none = refl
  alone_onward b q (Some number) none = cc

  alone_endpoint : (b : Behaviour) (e : Endpoint) → is_some (behaviour_policy b) ≡ false
      → tunnel_at_sid net node n b p [] e ≡ over [] (treated_at_sid net node n b p e)
  alone_endpoint b (Onward q) none = alone_onward b q (behaviour_policy b) none
  alone_endpoint b (Exposed family bytes) none = refl
  alone_endpoint b (Delivered q) none = refl
  alone_endpoint b (Refused reason at) none = refl

  alone_in : NothingBinds net → (o : Option SidEntry) → slice_get net.sids n ≡ o
      → tunnel_in net node n o p [] ≡ over [] (treated_in net node n o p)
  alone_in none None there = refl
  alone_in none (Some s) there =
      let unbound : is_some (behaviour_policy s.behaviour) ≡ false = ap (λ o. is_some (policy_at o)) (sym there) ∙ none n in
      alone_endpoint s.behaviour (at_sid s (allow_of (slice_get net.nodes node)) p) unbound

alone_way : (net : Network) (node : ℕ) (p : Packet) (choice : ℕ) → NothingBinds net → (w : Way)
    → tunnel_treated net node w p [] choice ≡ over [] (treated net node w p choice)
alone_way net node p choice none (NoWay reason) = refl
alone_way net node p choice none (Over set lower) = refl
alone_way net node p choice none Own = refl
alone_way net node p choice none (Into n) = alone_in net node n p none (slice_get net.sids n) refl

pub alone_stage : (net : Network) (place : Place) (content : Content) (choice : ℕ) → NothingBinds net
    → tunnel_step net place content [] choice ≡ over [] (free_step_of net place content choice)
alone_stage net place (V6 p) choice none = alone_way net place.node p choice none (way_of net place p.destination)
alone_stage net place (V4 p) choice none = refl
alone_stage net place (Unreadable bytes reason) choice none = refl

pub alone_walk : (fuel : ℕ) (net : Network) (place : Option Place) (content : Content) (pick : ℕ → ℕ) (taken : ℕ) → NothingBinds net
    → tunnel_walk fuel net place content [] pick taken ≡ map alone (free_walk_of fuel net place content pick taken)
unfolding tunnel_walk walk_by
alone_walk zero net place content pick taken none = refl
alone_walk (suc more) net None content pick taken none = refl
alone_walk (suc more) net (Some place) content pick taken none =
    let gave = free_step_of net place content (pick taken) in
    let s : Stage = record { place = place; before = content; gave = gave } in
    ap (λ (g : TunnelGave). record { place = place; before = content; under = []; gave = g }
    ∷ tunnel_walk more net (next_place net place g.outcome) g.after g.below pick (taken + decisions g.outcome))
    (alone_stage net place content (pick taken) none)
    ∙ ap (λ (rest : List TunnelStage). alone s ∷ rest)
    (alone_walk more net (next_place net place gave.outcome) gave.after pick (taken + decisions gave.outcome) none)
