-- Need not be believed: helps proofs and other laws.
-- Lists of segments that realize what legs are for, of any kind: as `Realizes` says it of strict legs, over the kind's own hand_over.
use Rattle.std.specs.Prelude.{◌≡◌, ℕ, ◌<◌, ◌≤◌, false, List, length, All, Some, None}
use Rattle.srv6_rules.specs.Packet.{Content}
use Rattle.walk_rules.specs.Walk.{choice_at}
use Rattle.list_pack.specs.declared.types.Container.{Container}
use Rattle.list_pack.specs.SidLists.{list_values}
use Rattle.leg_table.specs.OneLegLaws.{LegKind, HandsOver}
use Rattle.leg_table.specs.Realizes.{IsInner, content_lowered, encapsulated_for}
use Rattle.leg_table.specs.WalkTrace.{Handed}

-- under a list of choices the encapsulated packet is handed over: its trace keeps to the steps, with these marks, what is handed over is
-- the inner packet lowered by one, and no SID was executed that may not be
pub record HandsInner (k : LegKind) (segments : List ℕ) (inner : Content) (hop : ℕ) (marks choices : List ℕ) : Type 0 where
  pub handed : Handed
  pub over : HandsOver k None (encapsulated_for k.intent segments inner hop) (choice_at choices) 0 handed
  pub steps : k.kept 0 handed.trace ≡ Some marks
  pub content : handed.content ≡ content_lowered inner
  pub allowed : All (λ n. k.barred n ≡ false) handed.sids

-- for every list of choices, with the same marks
abbrev pub AlwaysInner : LegKind → List ℕ → Content → ℕ → List ℕ → Type 0
AlwaysInner k segments inner hop marks = (choices : List ℕ) → 0 < length choices → HandsInner k segments inner hop marks choices

-- so it is, with the same marks, for every inner packet of the intent's family, and above an outer hop limit
abbrev pub ReachesInner : LegKind → List ℕ → ℕ → Type 0
ReachesInner k segments n =
    (marks : List ℕ) × ((inner : Content) → IsInner k.intent.inner inner → (hop : ℕ) → n < hop → AlwaysInner k segments inner hop marks)

-- the segments of a list realize the intent, and need such an outer hop limit: the least one above which it is so
pub record IsRealizing (k : LegKind) (list : List Container) (need : ℕ) : Type 0 where
  pub reaches : ReachesInner k (list_values k.net list) need
  pub least : (n : ℕ) → ReachesInner k (list_values k.net list) n → need ≤ n

-- wherever they hand over, as many SIDs are executed
abbrev pub IsExecuting : LegKind → List Container → ℕ → Type 0
IsExecuting k list count =
    (inner : Content) (hop : ℕ) (marks choices : List ℕ) → (h : HandsInner k (list_values k.net list) inner hop marks choices)
    → length h.handed.sids ≡ count

-- they hand over even one inner packet at one outer hop limit, for every list of choices
pub record IsHanding (k : LegKind) (list : List Container) (hop : ℕ) : Type 0 where
  pub positive : 0 < hop
  pub inner : Content
  pub marks : List ℕ
  pub always : AlwaysInner k (list_values k.net list) inner hop marks
