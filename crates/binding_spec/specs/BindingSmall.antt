-- Packets that fit their headers and their links on the way to their own hand_over (RFC 8200 sections 3 and 5).
use Rattle.std.specs.Prelude.{ℕ, ◌<◌, ◌≤◌, List, [], ◌∷◌, length, Some}
use Rattle.srv6_rules.specs.Packet.{Content, V6, IsSpellable}
use Rattle.net_model.specs.Network.{Network}
use Rattle.walk_rules.specs.declared.place.Outcome.{Outcome}
use Rattle.walk_rules.specs.declared.place.Outcome.TheVariants as outcomes
use Rattle.walk_rules.specs.Treatment.{own_len, mtu_at}
use Rattle.walk_rules.specs.Walk.{choice_at}
use Rattle.walk_rules.specs.declared.limits.TheConstants.{MAX_STAGES}
use Rattle.intent_reader.specs.declared.intent.Intent.{Intent}
use Rattle.leg_table.specs.Realizes.{headend_place, encapsulated_for}
use Rattle.binding_spec.specs.TunnelLayers.{PushFits, spelled_content}
use Rattle.binding_spec.specs.TunnelWalks.{TunnelStage, tunnel_walk, through_own}

-- what stands at a node is no longer than the link that it is sent on carries
abbrev pub SentFits : Network → Content → Outcome → Type 0
SentFits net content (outcomes.Send link) = own_len content ≤ mtu_at net link
SentFits net content (outcomes.Again n how) = Unit {0}
SentFits net content (outcomes.Hand n how family) = Unit {0}
SentFits net content outcomes.Local = Unit {0}
SentFits net content (outcomes.Drop reason error) = Unit {0}

-- in these stages the payload of each header that is pushed fits, and each packet that is sent, with all headers in front, fits the link
abbrev pub FitAll : Network → List TunnelStage → Type 0
FitAll net [] = Unit {0}
FitAll net (s ∷ ss) = PushFits s.under s.gave × SentFits net (spelled_content s.before s.under) s.gave.outcome × FitAll net ss

-- ---- packets of an intent

-- the stages of the encapsulated packet, at most so many, up to and with its own hand_over, under a list of choices
abbrev pub stages_for : Network → Intent → List ℕ → Content → ℕ → List ℕ → ℕ → List TunnelStage
stages_for net intent segments inner hop choices fuel =
    through_own (tunnel_walk fuel net (Some (headend_place intent)) (V6 (encapsulated_for intent segments inner hop)) []
    (choice_at choices) 0)

-- an inner packet is small: bytes spell it with the first header, and for every list of choices the payload of each header that is pushed
-- up to the own hand_over fits, each packet fits the links that it is sent on, and there are fewer stages than a walk may have
pub record IsSmall (net : Network) (intent : Intent) (segments : List ℕ) (inner : Content) (hop : ℕ) : Type 0 where
  pub spelled : IsSpellable (encapsulated_for intent segments inner hop)
  pub fits : (choices : List ℕ) (fuel : ℕ) → 0 < length choices → FitAll net (stages_for net intent segments inner hop choices fuel)
  pub few : (choices : List ℕ) (fuel : ℕ) → 0 < length choices
      → length (stages_for net intent segments inner hop choices fuel) < MAX_STAGES
