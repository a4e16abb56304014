-- Need not be believed: helps proofs and other laws.
-- Paths of the packets that a headend makes for an intent.
use Rattle.std.specs.Prelude.{◌≡◌, ℕ, List}
use Rattle.srv6_rules.specs.Packet.{Content}
use Rattle.net_model.specs.Network.{Network}
use Rattle.walk_rules.specs.declared.place.Place.{Place}
use Rattle.intent_reader.specs.declared.intent.Intent.{Intent}
use Rattle.leg_table.specs.Realizes.{content_lowered, encapsulated_for, headend_place}
use Rattle.binding_spec.specs.OwnHands.{most_stages}
use Rattle.tunnel_walks_theory.specs.TunnelLegs.{HasPath, Path}
use Rattle.binding_spec.specs.NetworkWorld.{world}

-- the packet that the headend makes round an inner packet has a path of legs along the intent's steps, through these SIDs, and what is
-- inside at its end is the inner packet lowered by one
pub record HasPathFor (net : Network) (intent : Intent) (segments : List ℕ) (inner : Content) (hop : ℕ) : Type 0 where
  pub path : Path ℕ Place Content
  pub has : HasPath (world net most_stages) intent.steps (headend_place intent) (encapsulated_for intent segments inner hop) path
  pub content : path.bared.inside ≡ content_lowered inner
