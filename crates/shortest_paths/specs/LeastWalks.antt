-- Need not be believed: no program stands on it yet.
-- Walks along links to a target, what they cost, and the links with which the least ones begin.
use Rattle.std.specs.Prelude.{◌≤◌, ◌≡◌, ℕ, ◌+◌, List, [], ◌∷◌, slice_get, Some, Contains}
use Rattle.shortest_paths.specs.declared.links.Link.{Link}

-- a walk from a node to a target: links of the network, each from where the last led
abbrev pub IsWalk : List Link → List ℕ → ℕ → List Link → Type 0
IsWalk links targets node [] = Contains targets node
IsWalk links targets node (link ∷ walk) =
    Contains links link × (link.from ≡ node) × (far : ℕ) × (link.to ≡ Some far) × IsWalk links targets far walk

-- what a walk costs: the sum of its links' metrics
abbrev pub cost : List Link → ℕ
cost [] = 0
cost (link ∷ walk) = link.metric + cost walk

-- a link with which a walk from a node to a target begins that costs no more than any other walk from there
pub record BeginsLeast (links : List Link) (targets : List ℕ) (node : ℕ) (link : Link) : Type 0 where
  pub rest : List Link
  pub is : IsWalk links targets node (link ∷ rest)
  pub least : (other : List Link) → IsWalk links targets node other → cost (link ∷ rest) ≤ cost other

-- the number of a link with which a least walk begins
abbrev pub IsFirstHop : List Link → List ℕ → ℕ → ℕ → Type 0
IsFirstHop links targets node number = (link : Link) × (slice_get links number ≡ Some link) × BeginsLeast links targets node link
