-- Packets that fit their header and the links on the way to their first hand_over (RFC 8200 sections 3 and 5).
use Rattle.std.specs.Prelude.{ℕ, ◌<◌, List, [], ◌∷◌, length}
use Rattle.srv6_rules.specs.Packet.{Content, IsSpellable}
use Rattle.net_model.specs.Network.{Network}
use Rattle.walk_rules.specs.Walk.{Stage}
use Rattle.walk_rules.specs.declared.limits.TheConstants.{MAX_STAGES}
use Rattle.intent_reader.specs.declared.intent.Intent.{Intent}
use Rattle.leg_table.specs.Realizes.{encapsulated_for}
use Rattle.leg_table.specs.WalkTrace.{through_hand}
use Rattle.binding_spec.specs.BindingSmall.{SentFits}
use Rattle.loose_spec.specs.LooseRealizes.{stages_for}

-- in these stages each packet fits the link that it is sent on
abbrev pub AllFit : Network → List Stage → Type 0
AllFit net [] = Unit {0}
AllFit net (s ∷ ss) = SentFits net s.before s.gave.outcome × AllFit net ss

-- an inner packet is small: bytes spell it with its header, and for every list of choices each packet up to the first hand_over fits the
-- link that it is sent on, and there are fewer stages up to there than a walk may have
pub record LooseIsSmall (net : Network) (intent : Intent) (segments : List ℕ) (inner : Content) (hop : ℕ) : Type 0 where
  pub spelled : IsSpellable (encapsulated_for intent segments inner hop)
  pub fits : (choices : List ℕ) (fuel : ℕ) → 0 < length choices
      → AllFit net (through_hand (stages_for net intent segments inner hop choices fuel))
  pub few : (choices : List ℕ) (fuel : ℕ) → 0 < length choices
      → length (through_hand (stages_for net intent segments inner hop choices fuel)) < MAX_STAGES
