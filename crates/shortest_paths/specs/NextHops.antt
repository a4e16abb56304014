-- Need not be believed: helps proofs and other laws.
-- Next hops, and forwarding from hop to hop.
use Rattle.std.specs.Prelude.{◌≡◌, ℕ, ◌+◌, ◌↔◌, List, [], ◌∷◌, slice_get, Option, Some, Contains}
use Rattle.std.specs.List.Sorted.{IsStrictlyIncreasing}
use Rattle.shortest_paths.specs.declared.links.Link.{Link}
use Rattle.shortest_paths.specs.Walks.{at}

-- a link from a node whose metric and the distance of its far end are the distance of the node
pub record LeadsOn (distances : List (Option ℕ)) (node : ℕ) (link : Link) : Type 0 where
  pub from : link.from ≡ node
  pub far : ℕ
  pub to : link.to ≡ Some far
  pub rest : ℕ
  pub there : at distances far ≡ Some rest
  pub here : at distances node ≡ Some (link.metric + rest)

-- the number of such a link
abbrev pub IsNextHop : List Link → List (Option ℕ) → ℕ → ℕ → Type 0
IsNextHop links distances node number = (link : Link) × (slice_get links number ≡ Some link) × LeadsOn distances node link

-- exactly the numbers of such links, from the lowest up
pub record AreNextHops (links : List Link) (distances : List (Option ℕ)) (node : ℕ) (hops : List ℕ) : Type 0 where
  pub ascending : IsStrictlyIncreasing hops
  pub exact : (number : ℕ) → Contains hops number ↔ IsNextHop links distances node number

-- a packet goes from a node by next hops, any one at each node, and comes to another node
abbrev pub Forwards : List Link → List (Option ℕ) → ℕ → List Link → ℕ → Type 0
Forwards links distances node [] last = node ≡ last
Forwards links distances node (link ∷ way) last =
    Contains links link × (on : LeadsOn distances node link) × Forwards links distances on.far way last
