-- Lists of segments that realize an intent through binding SIDs.
use Rattle.std.specs.Prelude.{◌≡◌, ℕ, ◌<◌, ◌≤◌, List, [], length, Some, IsTrue}
use Rattle.srv6_rules.specs.declared.family.Family.{Family}
use Rattle.srv6_rules.specs.Packet.{Content, V6}
use Rattle.net_model.specs.Network.{Network}
use Rattle.walk_rules.specs.Walk.{choice_at}
use Rattle.intent_reader.specs.declared.intent.Intent.{Intent}
use Rattle.list_pack.specs.declared.types.Container.{Container}
use Rattle.list_pack.specs.SidLists.{list_values}
use Rattle.leg_table.specs.WalkTrace.{Handed}
use Rattle.leg_table.specs.StepMatching.{matches}
use Rattle.leg_table.specs.Realizes.{headend_place, IsInner, content_lowered, encapsulated_for}
use Rattle.binding_spec.specs.TunnelWalks.{tunnel_walk}
use Rattle.binding_spec.specs.OwnHands.{handed_own}

-- ---- over any relation of an inner packet, an outer hop limit and a list of choices

-- for every list of choices
abbrev pub AlwaysHands : (Content → ℕ → List ℕ → Type 0) → Content → ℕ → Type 0
AlwaysHands hands inner hop = (choices : List ℕ) → 0 < length choices → hands inner hop choices

-- for every inner packet of a family, and above an outer hop limit
abbrev pub HandsAbove : (Content → ℕ → List ℕ → Type 0) → Family → ℕ → Type 0
HandsAbove hands family n = (inner : Content) → IsInner family inner → (hop : ℕ) → n < hop → AlwaysHands hands inner hop

-- so it is above such an outer hop limit, the least one
pub record RealizesBy (hands : Content → ℕ → List ℕ → Type 0) (family : Family) (need : ℕ) : Type 0 where
  pub reaches : HandsAbove hands family need
  pub least : (n : ℕ) → HandsAbove hands family n → need ≤ n

-- ---- through binding SIDs

-- under a list of choices the encapsulated packet comes to its own hand_over: the trace up to there is the intent's steps, and what is
-- handed over is the inner packet lowered by one
pub record OwnHandsOver (net : Network) (intent : Intent) (segments : List ℕ) (inner : Content) (hop : ℕ) (choices : List ℕ) : Type 0 where
  pub fuel : ℕ
  pub handed : Handed
  pub own : handed_own net 0 (tunnel_walk fuel net (Some (headend_place intent)) (V6 (encapsulated_for intent segments inner hop)) []
      (choice_at choices) 0) ≡ Some handed
  pub steps : IsTrue (matches intent.steps handed.trace)
  pub content : handed.content ≡ content_lowered inner

-- the segments realize the intent, with this need
abbrev pub OwnRealizes : Network → Intent → List ℕ → ℕ → Type 0
OwnRealizes net intent segments need = RealizesBy (OwnHandsOver net intent segments) intent.inner need

-- wherever the segments hand over, as many SIDs are executed without a header in front
abbrev pub OwnExecutes : Network → Intent → List ℕ → ℕ → Type 0
OwnExecutes net intent segments count =
    (inner : Content) (hop : ℕ) (choices : List ℕ) → (h : OwnHandsOver net intent segments inner hop choices)
    → length h.handed.sids ≡ count

-- so it is of a list of containers, by its values
abbrev pub OwnListRealizes : Network → Intent → List Container → ℕ → Type 0
OwnListRealizes net intent list need = OwnRealizes net intent (list_values net list) need

abbrev pub OwnListExecutes : Network → Intent → List Container → ℕ → Type 0
OwnListExecutes net intent list count = OwnExecutes net intent (list_values net list) count
