-- Need not be believed: helps proofs and other laws.
-- The routes of a network to its destinations.
use Rattle.std.specs.Prelude.{◌≡◌, ℕ, ◌<◌, ◌⊎◌, ◌↔◌, List, [], ◌∷◌, length, slice_get, Some, All, Contains}
use Rattle.std.specs.List.{AllPairs}
use Rattle.std.specs.List.Sorted.{IsStrictlyIncreasing}
use Rattle.shortest_paths.specs.declared.links.Link.{Link}
use Rattle.shortest_paths.specs.declared.routes.Route.{Route}
use Rattle.shortest_paths.specs.LeastWalks.{IsFirstHop}

-- for each destination the nodes that originate it
abbrev pub Destinations : Type 0
Destinations = List (List ℕ)

-- via exactly the links with which the node's least walks to the originators begin, and there is one
pub record IsRoute (links : List Link) (destinations : Destinations) (route : Route) : Type 0 where
  pub originators : List ℕ
  pub is : slice_get destinations route.destination ≡ Some originators
  pub ascending : IsStrictlyIncreasing route.via
  pub exact : (number : ℕ) → Contains route.via number ↔ IsFirstHop links originators route.node number
  pub some : 0 < length route.via

abbrev pub HasRoute : List Route → ℕ → ℕ → Type 0
HasRoute routes destination node = (route : Route) × Contains routes route × (route.destination ≡ destination) × (route.node ≡ node)

-- by destinations, then by nodes
abbrev pub IsBefore : ℕ → ℕ → ℕ → ℕ → Type 0
IsBefore destination node later_destination later_node =
    (destination < later_destination) ⊎ ((destination ≡ later_destination) × (node < later_node))

abbrev pub ComesBefore : Route → Route → Type 0
ComesBefore first later = IsBefore first.destination first.node later.destination later.node

-- one route for each destination and node from which a least walk begins with a link, and no other
pub record AreRoutes (links : List Link) (destinations : Destinations) (routes : List Route) : Type 0 where
  pub each : All (IsRoute links destinations) routes
  pub complete : (destination : ℕ) (originators : List ℕ) → slice_get destinations destination ≡ Some originators
      → (node hop : ℕ) → IsFirstHop links originators node hop → HasRoute routes destination node
  pub ordered : AllPairs ComesBefore routes

-- at a node some route to the destination has the link
abbrev pub Takes : List Link → List Route → ℕ → ℕ → Link → Type 0
Takes links routes destination node link =
    (route : Route) × (number : ℕ) × Contains routes route × (route.destination ≡ destination) × (route.node ≡ node)
    × Contains route.via number
    × (slice_get links number ≡ Some link)

-- a packet to a destination goes from a node by routes, over any link of the route at each node, and comes to another node
abbrev pub Follows : List Link → List Route → ℕ → ℕ → List Link → ℕ → Type 0
Follows links routes destination node [] last = node ≡ last
Follows links routes destination node (link ∷ way) last =
    Takes links routes destination node link × (far : ℕ) × (link.to ≡ Some far) × Follows links routes destination far way last
