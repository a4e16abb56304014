-- Need not be believed: helps proofs and other laws.
-- What a packet that a machine walks hands over, and hand-overs along steps.
use Rattle.std.specs.Prelude.{◌≡◌, ℕ, ◌<◌, List, [], length, Some, IsTrue}
use Rattle.srv6_rules.specs.Packet.{Packet, Content, V6}
use Rattle.net_model.specs.Network.{Network}
use Rattle.walk_rules.specs.declared.place.Place.{Place}
use Rattle.walk_rules.specs.Walk.{choice_at}
use Rattle.intent_reader.specs.declared.intent.Step.{Step}
use Rattle.leg_table.specs.WalkTrace.{TraceEvent, Handed}
use Rattle.leg_table.specs.StepMatching.{matches}
use Rattle.binding_spec.specs.TunnelWalks.{tunnel_walk}
use Rattle.binding_spec.specs.OwnHands.{handed_own}
use Rattle.tunnel_walks_theory.specs.MachinesTerms.{Got}
use Rattle.tunnel_walks_theory.specs.TunnelPacketsTerms.{Bared}

-- what a walk of the machine hands over: its events, the SIDs that it noted, and what was inside
abbrev pub handed_of : Got TraceEvent ℕ (Bared Place Content) → Handed
handed_of g = record { trace = g.trace; sids = g.sids; content = g.result.inside }

-- under a list of choices a packet comes from a place to its own hand_over, and its trace up to there is the steps
pub record HandsFrom (net : Network) (ts : List Step) (place : Place) (p : Packet) (choices : List ℕ) : Type 0 where
  pub fuel : ℕ
  pub handed : Handed
  pub own : handed_own net 0 (tunnel_walk fuel net (Some place) (V6 p) [] (choice_at choices) 0) ≡ Some handed
  pub steps : IsTrue (matches ts handed.trace)

-- and so for every list of choices
abbrev pub AlwaysHandsFrom : Network → List Step → Place → Packet → Type 0
AlwaysHandsFrom net ts place p = (choices : List ℕ) → 0 < length choices → HandsFrom net ts place p choices
