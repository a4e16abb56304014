-- Need not be believed: helps proofs and other laws.
-- Routes of a network along shortest paths.
use Rattle.std.specs.Prelude.{◌≡◌, ℕ, ◌+◌, ◌<◌, ◌↔◌, false, List, [], ◌∷◌, ◌++◌, length, slice_index_or, Option, Some, None, All, Contains}
use Rattle.std.specs.List.{AllPairs}
use Rattle.std.specs.List.Sorted.{IsStrictlyIncreasing}
use Rattle.v6_addr.specs.Address.{PrefixValue}
use Rattle.srv6_rules.specs.declared.family.Family.{Family}
use Rattle.net_model.specs.declared.parts.Link.{Link}
use Rattle.net_model.specs.declared.parts.Route.{Route}
use Rattle.net_model.specs.NetworkRules.{same_route}
use Rattle.shortest_paths.specs.declared.links.Link as path
use Rattle.shortest_paths.specs.LeastWalks.{IsFirstHop}
use Rattle.planned_routes.specs.declared.owners.Owner.{Owner}

-- ---- links with metrics

-- a link as paths see it: one without a metric is down, and leads nowhere
abbrev pub weighed : Link → Option ℕ → path.Link
weighed l None = record { from = l.from; to = None; metric = 1 }
weighed l (Some metric) = record { from = l.from; to = l.to; metric = metric }

-- the metric of the link with a number; a link that has none in the list is down
abbrev pub metric_at : List (Option ℕ) → ℕ → Option ℕ
metric_at metrics n = slice_index_or metrics n None

-- links, the first of which has the number n, with their metrics
abbrev pub weighed_from : ℕ → List (Option ℕ) → List Link → List path.Link
weighed_from n metrics [] = []
weighed_from n metrics (l ∷ ls) = weighed l (metric_at metrics n) ∷ weighed_from (n + 1) metrics ls

abbrev pub weighed_links : List (Option ℕ) → List Link → List path.Link
weighed_links metrics links = weighed_from 0 metrics links

-- ---- routes

-- an owner has the prefix, in the table
pub record Has (o : Owner) (t : ℕ) (f : Family) (p : PrefixValue) : Type 0 where
  pub table : o.table ≡ t
  pub family : o.family ≡ f
  pub prefix : o.prefix ≡ p

-- these are the nodes that have the prefix, in the table
abbrev pub AreNodesWith : List Owner → ℕ → Family → PrefixValue → List ℕ → Type 0
AreNodesWith owners table family prefix nodes =
    (node : ℕ) → Contains nodes node ↔ ((o : Owner) × Contains owners o × Has o table family prefix × (o.node ≡ node))

-- over exactly the links with which the node's least walks to the nodes with the prefix begin, from the lowest up; there is one
pub record IsPlanned (links : List path.Link) (owners : List Owner) (r : Route) : Type 0 where
  pub targets : List ℕ
  pub are : AreNodesWith owners r.table r.family r.prefix targets
  pub ascending : IsStrictlyIncreasing r.via
  pub exact : (n : ℕ) → Contains r.via n ↔ IsFirstHop links targets r.node n
  pub some : 0 < length r.via

abbrev pub HasRoute : List Route → Owner → ℕ → Type 0
HasRoute routes o node = (r : Route) × Contains routes r × (r.node ≡ node) × Has o r.table r.family r.prefix

-- beside the routes that are there: none for which there is one of its node, table and prefix, and else one for each prefix that some
-- node has and each node from which a least walk to those begins with a link
pub record ArePlanned (links : List path.Link) (owners : List Owner) (there routes : List Route) : Type 0 where
  pub each : All (IsPlanned links owners) routes
  pub new : (r q : Route) → Contains routes r → Contains there q → same_route q r ≡ false
  pub apart : AllPairs (λ q r. same_route q r ≡ false) routes
  pub complete : (o : Owner) → Contains owners o → (targets : List ℕ) → AreNodesWith owners o.table o.family o.prefix targets
      → (node hop : ℕ) → IsFirstHop links targets node hop → HasRoute (there ++ routes) o node
