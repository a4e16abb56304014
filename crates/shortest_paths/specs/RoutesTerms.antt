-- Need not be believed: helps proofs and other laws.
-- The routes of a network so far.
use Rattle.std.specs.Prelude.{◌≡◌, ℕ, List, slice_get, Some, All}
use Rattle.std.specs.List.{AllPairs}
use Rattle.shortest_paths.specs.declared.links.Link.{Link}
use Rattle.shortest_paths.specs.declared.routes.Route.{Route}
use Rattle.shortest_paths.specs.Routes.{Destinations, IsRoute, HasRoute, IsBefore, ComesBefore}
use Rattle.shortest_paths.specs.LeastWalks.{IsFirstHop}

-- those before a destination and a node
pub record PlansSoFar (links : List Link) (destinations : Destinations) (destination node : ℕ) (routes : List Route) : Type 0 where
  pub each : All (IsRoute links destinations) routes
  pub early : All (λ route. IsBefore route.destination route.node destination node) routes
  pub complete : (d : ℕ) (originators : List ℕ) → slice_get destinations d ≡ Some originators → (n hop : ℕ)
      → IsBefore d n destination node → IsFirstHop links originators n hop → HasRoute routes d n
  pub ordered : AllPairs ComesBefore routes
