-- Walks where the packets that pushed headers carry are values, and how deep a packet is in them.
use Rattle.std.specs.Prelude.{ℕ, zero, suc, ◌+◌, ◌-◌, if◌then◌else◌, List, [], ◌∷◌, Option, Some, None}
use Rattle.srv6_rules.specs.Packet.{Packet, Content}
use Rattle.net_model.specs.Network.{Network}
use Rattle.walk_rules.specs.declared.place.Place.{Place}
use Rattle.walk_rules.specs.declared.place.Outcome.{Outcome}
use Rattle.walk_rules.specs.declared.place.Outcome.TheVariants as outcomes
use Rattle.walk_rules.specs.Walk.{next_place, decisions}
use Rattle.binding_spec.specs.TunnelStages.{TunnelGave, tunnel_step, is_binding}

-- a stage of a walk: where the packet stood, what stood there, the packets below it, and what the stage gave
pub record TunnelStage : Type 0 where
  pub place : Place
  pub before : Content
  pub under : List Packet
  pub gave : TunnelGave

-- at most so many stages from a place, if there is one, where pick gives the choice of each decision, and `taken` decisions were taken
-- before
unfoldable pub tunnel_walk : ℕ → Network → Option Place → Content → List Packet → (ℕ → ℕ) → ℕ → List TunnelStage
tunnel_walk zero net place content below pick taken = []
tunnel_walk (suc more) net None content below pick taken = []
tunnel_walk (suc more) net (Some place) content below pick taken =
    let gave = tunnel_step net place content below (pick taken) in
    record { place = place; before = content; under = below; gave = gave }
    ∷ tunnel_walk more net (next_place net place gave.outcome) gave.after gave.below pick (taken + decisions gave.outcome)

-- the depth of a packet after an outcome: it rises by one where a binding SID was executed and the packet stays, and falls by one with a
-- hand_over at a depth above 0
abbrev pub depth_after : Network → ℕ → Outcome → ℕ
depth_after net depth (outcomes.Again n how) = if is_binding net n then depth + 1 else depth
depth_after net depth (outcomes.Hand n how family) = depth - 1
depth_after net depth (outcomes.Send link) = depth
depth_after net depth outcomes.Local = depth
depth_after net depth (outcomes.Drop reason error) = depth

-- what follows a stage up to and with the packet's own hand_over, which is the first without packets below
abbrev pub behind_own : Outcome → List Packet → List TunnelStage → List TunnelStage
behind_own (outcomes.Hand n how family) [] later = []
behind_own (outcomes.Hand n how family) (q ∷ under) later = later
behind_own (outcomes.Again n how) under later = later
behind_own (outcomes.Send link) under later = later
behind_own outcomes.Local under later = later
behind_own (outcomes.Drop reason error) under later = later

-- the stages up to and with the packet's own hand_over, or all of them where there is none
abbrev pub through_own : List TunnelStage → List TunnelStage
through_own [] = []
through_own (s ∷ more) = s ∷ behind_own s.gave.outcome s.under (through_own more)
