-- Need not be believed: helps proofs and other laws.
-- Where a packet goes on from behind a pushed header.
use Rattle.std.specs.Prelude.{◌≡◌, ℕ, ◌≤◌, true, is_some, List, [], length, take, drop, Option, Some}
use Rattle.srv6_rules.specs.declared.family.Family.TheVariants as families
use Rattle.srv6_rules.specs.Packet.{Packet}
use Rattle.srv6_rules.specs.Srh.{Srh}
use Rattle.outer_header_theory.specs.HeaderFronts.{AreFront, filled}
use Rattle.net_model.specs.Network.{Network}
use Rattle.walk_rules.specs.Relation.{IsPlace}
use Rattle.walk_rules.specs.declared.place.Place.{Place}
use Rattle.intent_reader.specs.IntentRules.{stand_after}
use Rattle.intent_reader.specs.declared.intent.Step.{Step}
use Rattle.binding_spec.specs.Machines.{End}

-- a header in front of no bytes, that says that an IPv6 packet is behind it
pub record IsHead (head : Packet) : Type 0 where
  pub fields : Packet
  pub routing : Option Srh
  pub is : head ≡ filled fields routing []
  pub front : AreFront routing

-- behind a header that was pushed at a node: some of the steps are done, the place is one of the network, where those steps lead, for a
-- packet of IPv6, and the steps left go on from there
pub record OriginsBehind (net : Network) (ts : List Step) (node : ℕ) (e : End Step ℕ Place) : Type 0 where
  pub done : ℕ
  pub few : done ≤ length ts
  pub left : e.left ≡ drop done ts
  pub lands : stand_after net node (take done ts) ≡ Some e.result.node
  pub place : IsPlace net e.result
  pub family : e.result.family ≡ families.V6
  pub stands : is_some (stand_after net e.result.node e.left) ≡ true
