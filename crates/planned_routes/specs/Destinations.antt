-- Need not be believed: helps proofs and other laws.
-- Routes to destinations, each with its nodes.
use Rattle.std.specs.Prelude.{◌≡◌, ℕ, ◌<◌, ◌↔◌, false, List, ◌++◌, length, All, Contains}
use Rattle.std.specs.List.{AllPairs}
use Rattle.std.specs.List.Sorted.{IsStrictlyIncreasing}
use Rattle.net_model.specs.declared.parts.Route.{Route}
use Rattle.net_model.specs.NetworkRules.{same_route}
use Rattle.shortest_paths.specs.declared.links.Link as path
use Rattle.shortest_paths.specs.LeastWalks.{IsFirstHop}
use Rattle.planned_routes.specs.declared.destination.Destination.{Destination}

-- the route's table and prefix are the destination's
pub record LeadsTo (d : Destination) (r : Route) : Type 0 where
  pub table : r.table ≡ d.table
  pub family : r.family ≡ d.family
  pub prefix : r.prefix ≡ d.prefix

-- to a destination, over exactly the links with which the node's least walks to its nodes begin
pub record LeadsLeast (links : List path.Link) (destinations : List Destination) (r : Route) : Type 0 where
  pub destination : Destination
  pub among : Contains destinations destination
  pub leads : LeadsTo destination r
  pub ascending : IsStrictlyIncreasing r.via
  pub exact : (n : ℕ) → Contains r.via n ↔ IsFirstHop links destination.nodes r.node n
  pub some : 0 < length r.via

abbrev pub HasWay : List Route → Destination → ℕ → Type 0
HasWay routes d node = (r : Route) × Contains routes r × (r.node ≡ node) × LeadsTo d r

pub record LeadToAll (links : List path.Link) (destinations : List Destination) (there routes : List Route) : Type 0 where
  pub each : All (LeadsLeast links destinations) routes
  pub new : (r q : Route) → Contains routes r → Contains there q → same_route q r ≡ false
  pub apart : AllPairs (λ q r. same_route q r ≡ false) routes
  pub complete : (d : Destination) → Contains destinations d → (node hop : ℕ) → IsFirstHop links d.nodes node hop
      → HasWay (there ++ routes) d node
