-- Need not be believed: helps proofs and other laws.
-- Networks of links, and the distances of their nodes.
use Rattle.std.specs.Prelude.{◌≡◌, ℕ, ◌<◌, ◌≤◌, List, length, slice_index_or, Option, Some, None, All}
use Rattle.shortest_paths.specs.declared.links.Link.{Link}
use Rattle.shortest_paths.specs.LeastWalks.{IsWalk, cost}

-- a link from one of so many nodes, to one of them or out of the network
pub record IsLink (nodes : ℕ) (link : Link) : Type 0 where
  pub from : link.from < nodes
  pub to : (far : ℕ) → link.to ≡ Some far → far < nodes
  pub positive : 1 ≤ link.metric
  pub low : link.metric ≤ 4294967295

-- at most 256 nodes and 4,096 links of these nodes
pub record IsNetwork (nodes : ℕ) (links : List Link) : Type 0 where
  pub few_nodes : nodes ≤ 256
  pub few_links : length links ≤ 4096
  pub each : All (IsLink nodes) links

-- some walk from a node to a target costs so much
abbrev pub HasWalk : List Link → List ℕ → ℕ → ℕ → Type 0
HasWalk links targets node d = (walk : List Link) × IsWalk links targets node walk × (cost walk ≡ d)

-- the least cost of a walk from a node to a target; none where there is no walk
abbrev pub IsDistance : List Link → List ℕ → ℕ → Option ℕ → Type 0
IsDistance links targets node None = (walk : List Link) → ¬ IsWalk links targets node walk
IsDistance links targets node (Some d) =
    HasWalk links targets node d × ((walk : List Link) → IsWalk links targets node walk → d ≤ cost walk)

-- what is listed for a node; none for one that is not listed
abbrev pub at : List (Option ℕ) → ℕ → Option ℕ
at distances node = slice_index_or distances node None

-- the distance of each node
pub record AreDistances (links : List Link) (targets : List ℕ) (distances : List (Option ℕ)) : Type 0 where
  pub each : (node : ℕ) → IsDistance links targets node (at distances node)
