-- Need not be believed: helps proofs and other laws.
-- Terms beside those of `binding_spec/specs/TunnelWalks.antt`.
use Rattle.std.specs.Prelude.{◌≡◌, ℕ, ◌-◌, List, [], ◌∷◌, length}
use Rattle.net_model.specs.Network.{Network}
use Rattle.walk_rules.specs.Walk.{Stage}
use Rattle.binding_spec.specs.TunnelStages.{over}
use Rattle.binding_spec.specs.TunnelWalks.{TunnelStage, depth_after}

-- a stage of a walk without packets below
abbrev pub alone : Stage → TunnelStage
alone s = record { place = s.place; before = s.before; under = []; gave = over [] s.gave }

-- counted by outcomes from a depth on, the depth before each stage is the number of packets below
abbrev pub AreDepths : Network → ℕ → List TunnelStage → Type 0
AreDepths net depth [] = Unit {0}
AreDepths net depth (s ∷ more) = (length s.under ≡ depth) × AreDepths net (depth_after net depth s.gave.outcome) more
