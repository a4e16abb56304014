-- Lists of segments that realize an intent, and paths of legs.
use Rattle.std.specs.Prelude.{◌≡◌, ℕ, ◌<◌, ◌≤◌, false, List, length, All, Some, IsTrue}
use Rattle.srv6_rules.specs.declared.family.Family.{Family}
use Rattle.srv6_rules.specs.declared.family.Family.TheVariants as families
use Rattle.srv6_rules.specs.Packet.{Packet, Content, V6, V4, Unreadable, IsSpellable, bytes_of}
use Rattle.srv6_rules.specs.Packet4.{IsSpellable4, ttl, lowered4}
use Rattle.srv6_rules.specs.Encapsulation.{Encapsulation, inner_lowered}
use Rattle.srv6_rules.specs.Policies.{pushed_round}
use Rattle.net_model.specs.Network.{Network}
use Rattle.walk_rules.specs.declared.place.How.TheVariants.{Submitted}
use Rattle.walk_rules.specs.declared.place.Place.{Place}
use Rattle.walk_rules.specs.Walk.{free_walk_of as walk_of, choice_at}
use Rattle.intent_reader.specs.declared.intent.Intent.{Intent}
use Rattle.list_pack.specs.declared.types.Container.{Container}
use Rattle.list_pack.specs.SidLists.{list_values}
use Rattle.leg_table.specs.WalkTrace.{Handed, handed_over}
use Rattle.leg_table.specs.StepMatching.{matches}
use Rattle.leg_table.specs.PositionSids.{is_binding}

-- where the headend's own packets are looked up
abbrev pub headend_place : Intent → Place
headend_place intent = record { node = intent.headend; how = Submitted 0; family = families.V6 }

-- what the headend encapsulates with, for a list of segments
abbrev pub encapsulation_of : Intent → List ℕ → Encapsulation
encapsulation_of intent segments =
    record {
      traffic_class = intent.traffic_class;
      flow_label = intent.flow_label;
      source = intent.source.value;
      reduced = intent.reduced;
      segments = segments;
    }

-- ---- inner packets

-- an inner packet of a family that bytes spell and that may be encapsulated: its hop limit or TTL is at least 2
abbrev pub IsInner : Family → Content → Type 0
IsInner families.V6 (V6 p) = IsSpellable p × (2 ≤ p.hop_limit)
IsInner families.V6 (V4 p) = ⊥
IsInner families.V6 (Unreadable bytes reason) = ⊥
IsInner families.V4 (V6 p) = ⊥
IsInner families.V4 (V4 p) = IsSpellable4 p × (2 ≤ ttl p)
IsInner families.V4 (Unreadable bytes reason) = ⊥

-- it is lowered by one before it is encapsulated: the hop limit, or the TTL with its checksum (RFC 8986 section 5.1)
abbrev pub content_lowered : Content → Content
content_lowered (V6 p) = V6 (inner_lowered p)
content_lowered (V4 p) = V4 (lowered4 p)
content_lowered (Unreadable bytes reason) = Unreadable bytes reason

-- the packet as the headend makes it round an inner packet, with an outer hop limit
abbrev pub encapsulated_for : Intent → List ℕ → Content → ℕ → Packet
encapsulated_for intent segments inner hop =
    pushed_round (encapsulation_of intent segments) intent.inner (bytes_of (content_lowered inner)) hop

-- ---- lists that realize an intent

-- under a list of choices the encapsulated packet is handed over: its trace up to there is the intent's steps, what is handed over is the
-- inner packet lowered by one, and no binding SID was executed
pub record HandsOver (net : Network) (intent : Intent) (segments : List ℕ) (inner : Content) (hop : ℕ) (choices : List ℕ) : Type 0 where
  pub fuel : ℕ
  pub handed : Handed
  pub first : handed_over net (walk_of fuel net (Some (headend_place intent)) (V6 (encapsulated_for intent segments inner hop))
      (choice_at choices) 0) ≡ Some handed
  pub steps : IsTrue (matches intent.steps handed.trace)
  pub content : handed.content ≡ content_lowered inner
  pub unbound : All (λ n. is_binding net n ≡ false) handed.sids

-- for every list of choices
abbrev pub AlwaysHandsOver : Network → Intent → List ℕ → Content → ℕ → Type 0
AlwaysHandsOver net intent segments inner hop = (choices : List ℕ) → 0 < length choices → HandsOver net intent segments inner hop choices

-- so it is for every inner packet of the intent's family, and above an outer hop limit
abbrev pub ReachesAbove : Network → Intent → List ℕ → ℕ → Type 0
ReachesAbove net intent segments n =
    (inner : Content) → IsInner intent.inner inner → (hop : ℕ) → n < hop → AlwaysHandsOver net intent segments inner hop

-- the segments realize the intent, and need such an outer hop limit: the least one above which it is so
pub record Realizes (net : Network) (intent : Intent) (segments : List ℕ) (need : ℕ) : Type 0 where
  pub reaches : ReachesAbove net intent segments need
  pub least : (n : ℕ) → ReachesAbove net intent segments n → need ≤ n

-- so it is of a list of containers, by its values

abbrev pub ListRealizes : Network → Intent → List Container → ℕ → Type 0
ListRealizes net intent list need = Realizes net intent (list_values net list) need
