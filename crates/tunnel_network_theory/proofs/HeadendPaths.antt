-- A headend's packet comes to its own hand_over exactly where it has a path along the intent's steps.
use Rattle.std.proofs.Common.{◌≡◌, ℕ, List, [], ◌∷◌, sym, ◌∙◌, arith}
use Rattle.std.specs.Prelude.{◌↔◌}
use Rattle.srv6_rules.specs.Packet.{Content}
use Rattle.net_model.specs.Network.{Network}
use Rattle.intent_reader.specs.IntentRulesTerms.{IsIntent}
use Rattle.intent_reader.specs.declared.intent.Intent.{Intent}
use Rattle.leg_table.specs.Realizes.{encapsulated_for, headend_place}
use Rattle.leg_table.proofs.TransitFacts.{intent_stands}
use Rattle.binding_spec.specs.OwnHands.{most_stages}
use Rattle.binding_spec.specs.BindingRealizes.{AlwaysHands, OwnHandsOver}
use Rattle.tunnel_walks_theory.specs.TunnelPacketsTerms.{AreJoined}
use Rattle.binding_spec.specs.NetworkWorld.{world}
use Rattle.tunnel_network_theory.specs.IntentPaths.{HasPathFor}
use Rattle.tunnel_network_theory.specs.NetworkWalks.{HandsFrom}
use Rattle.tunnel_network_theory.proofs.NetworkHanding.{hands_have, have_hands, hands_each}
use Rattle.tunnel_network_theory.proofs.NetworkJoins.{steps_joined}

intent_joined : (net : Network) (intent : Intent) → IsIntent net intent → AreJoined (world net most_stages) intent.steps
intent_joined net intent is = steps_joined net most_stages intent.headend intent.steps (intent_stands net intent is).0

module _ (net : Network) (intent : Intent) (segments : List ℕ) (inner : Content) (hop : ℕ) (is : IsIntent net intent) where
  abbrev from_hands : (choices : List ℕ) → OwnHandsOver net intent segments inner hop choices
      → HandsFrom net intent.steps (headend_place intent) (encapsulated_for intent segments inner hop) choices
  from_hands choices h = record { fuel = h.fuel; handed = h.handed; own = h.own; steps = h.steps }

  hands_for : AlwaysHands (OwnHandsOver net intent segments) inner hop → HasPathFor net intent segments inner hop
  hands_for all =
      let p = encapsulated_for intent segments inner hop in
      let joined = intent_joined net intent is in
      let has = hands_have net intent.steps (headend_place intent) p joined (λ choices some. from_hands choices (all choices some)) in
      let h = all (0 ∷ []) (omega arith) in
      let same = hands_each net intent.steps (headend_place intent) p joined has.0 has.1 (0 ∷ []) (from_hands (0 ∷ []) h) in
      record { path = has.0; has = has.1; content = sym same.1 ∙ h.content }

  for_hands : HasPathFor net intent segments inner hop → AlwaysHands (OwnHandsOver net intent segments) inner hop
  for_hands x choices some =
      let p = encapsulated_for intent segments inner hop in
      let joined = intent_joined net intent is in
      let h = have_hands net intent.steps (headend_place intent) p joined x.path x.has choices some in
      let same = hands_each net intent.steps (headend_place intent) p joined x.path x.has choices h in
      record { fuel = h.fuel; handed = h.handed; own = h.own; steps = h.steps; content = same.1 ∙ x.content }

  pub own_path : AlwaysHands (OwnHandsOver net intent segments) inner hop ↔ HasPathFor net intent segments inner hop
  own_path = (hands_for, for_hands)

  pub own_sids : (x : HasPathFor net intent segments inner hop) (choices : List ℕ) (h : OwnHandsOver net intent segments inner hop choices)
      → h.handed.sids ≡ x.path.sids
  own_sids x choices h =
      (hands_each net intent.steps (headend_place intent) (encapsulated_for intent segments inner hop) (intent_joined net intent is) x.path
      x.has choices (from_hands choices h)).0
