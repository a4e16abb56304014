-- Need not be believed: helps proofs and other laws.
-- The nodes are settled one by one, the nearest to a target first.
use Rattle.std.specs.Prelude.{◌≡◌, ℕ, ◌+◌, ◌*◌, ◌<◌, ◌≤◌, ◌⊎◌, Bool, true, false, not, List, length, slice_index_or, count_by, Option, Some, Contains}
use Rattle.shortest_paths.specs.declared.links.Link.{Link}
use Rattle.shortest_paths.specs.declared.nearest.Nearest.{Nearest}
use Rattle.shortest_paths.specs.Walks.{at, HasWalk}

abbrev pub Entries : Type 0
Entries = List (Option ℕ)

-- something is known, and it is no more than a number
pub record AtMost (entry : Option ℕ) (most : ℕ) : Type 0 where
  pub value : ℕ
  pub is : entry ≡ Some value
  pub low : value ≤ most

abbrev pub is_settled : List Bool → ℕ → Bool
is_settled settled node = slice_index_or settled node false

-- how many nodes are not settled
abbrev pub open_count : List Bool → ℕ
open_count settled = count_by not settled

-- ---- the nearest node that is not settled

abbrev pub IsClosed : Entries → List Bool → ℕ → Type 0
IsClosed entries settled node = (d : ℕ) → at entries node ≡ Some d → is_settled settled node ≡ true

pub record IsOpen (entries : Entries) (settled : List Bool) (near : Nearest) : Type 0 where
  pub unsettled : is_settled settled near.node ≡ false
  pub has : at entries near.node ≡ Some near.distance

pub record IsNearest (entries : Entries) (settled : List Bool) (count : ℕ) (near : Nearest) : Type 0 where
  pub early : near.node < count
  pub is_open : IsOpen entries settled near
  pub least : (node d : ℕ) → node < count → is_settled settled node ≡ false → at entries node ≡ Some d → near.distance ≤ d

abbrev pub NoneIsOpen : Entries → List Bool → ℕ → Type 0
NoneIsOpen entries settled count = (node : ℕ) → node < count → IsClosed entries settled node

-- ---- one settled node's links

-- the entries of the links' near ends are lowered to what the links give, where that is less
pub record Relaxes (into : List Link) (distance : ℕ) (before after : Entries) : Type 0 where
  pub long : length after ≡ length before
  pub falls : (node d : ℕ) → at before node ≡ Some d → AtMost (at after node) d
  pub takes : (link : Link) → Contains into link → AtMost (at after link.from) (link.metric + distance)
  pub only : (node d : ℕ) → at after node ≡ Some d
      → (at before node ≡ Some d) ⊎ ((link : Link) × Contains into link × (link.from ≡ node) × (link.metric + distance ≡ d))

-- ---- all nodes

-- the targets are at 0, and nothing else is known
pub record AreStarts (targets : List ℕ) (entries : Entries) : Type 0 where
  pub here : (node : ℕ) → Contains targets node → at entries node ≡ Some 0
  pub only : (node d : ℕ) → at entries node ≡ Some d → Contains targets node × (d ≡ 0)

-- so far the links into the settled nodes hold, and nothing that is not settled is nearer
pub record SettlesSoFar (links : List Link) (targets : List ℕ) (entries : Entries) (settled : List Bool) : Type 0 where
  pub long : length settled ≡ length entries
  pub walks : (node d : ℕ) → at entries node ≡ Some d → HasWalk links targets node d
  pub starts : (node : ℕ) → Contains targets node → AtMost (at entries node) 0
  pub low : (node d : ℕ) → at entries node ≡ Some d → d + open_count settled * 4294967295 ≤ length settled * 4294967295
  pub top : ℕ
  pub below : (node : ℕ) → is_settled settled node ≡ true → AtMost (at entries node) top
  pub above : (node d : ℕ) → is_settled settled node ≡ false → at entries node ≡ Some d → top ≤ d
  pub holds : (link : Link) → Contains links link → (far : ℕ) → link.to ≡ Some far → is_settled settled far ≡ true
      → (d : ℕ) → at entries far ≡ Some d → AtMost (at entries link.from) (link.metric + d)
