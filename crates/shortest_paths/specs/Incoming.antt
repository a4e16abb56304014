-- Need not be believed: helps proofs and other laws.
-- The links of a network by the node that they lead to.
use Rattle.std.specs.Prelude.{◌≡◌, ℕ, ◌⊎◌, List, length, slice_get, Some, Contains, Vec}
use Rattle.std.specs.Global.{Global}
use Rattle.shortest_paths.specs.declared.links.Link.{Link}

abbrev pub Groups : Type 0
Groups = List (Vec Link Global)

-- the link is in the group of a node
abbrev pub IsIn : Groups → ℕ → Link → Type 0
IsIn groups node link = (group : Vec Link Global) × (slice_get groups node ≡ Some group) × Contains group.items link

abbrev pub AreEmpty : ℕ → Groups → Type 0
AreEmpty count groups = (length groups ≡ count) × ((node : ℕ) (link : Link) → ¬ IsIn groups node link)

-- one link more, in the group of the node that it leads to
pub record PutsLink (before after : Groups) (link : Link) : Type 0 where
  pub long : length after ≡ length before
  pub kept : (node : ℕ) (other : Link) → IsIn before node other → IsIn after node other
  pub put : (far : ℕ) → link.to ≡ Some far → IsIn after far link
  pub only : (node : ℕ) (other : Link) → IsIn after node other → IsIn before node other ⊎ ((link ≡ other) × (link.to ≡ Some node))

-- links more, each in the group of the node that it leads to
pub record PutsLinks (before : Groups) (links : List Link) (after : Groups) : Type 0 where
  pub long : length after ≡ length before
  pub put : (link : Link) → Contains links link → (far : ℕ) → link.to ≡ Some far → IsIn after far link
  pub only : (node : ℕ) (link : Link) → IsIn after node link → IsIn before node link ⊎ (Contains links link × (link.to ≡ Some node))

-- the links that lead to each of so many nodes
pub record AreIncoming (links : List Link) (count : ℕ) (groups : Groups) : Type 0 where
  pub long : length groups ≡ count
  pub each : (link : Link) → Contains links link → (far : ℕ) → link.to ≡ Some far → IsIn groups far link
  pub only : (node : ℕ) (link : Link) → IsIn groups node link → Contains links link × (link.to ≡ Some node)
