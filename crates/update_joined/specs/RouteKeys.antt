-- Need not be believed: helps proofs and other laws.
-- What tells a route from others, in an order, so that a map can give the number of a route.
use Rattle.std.specs.Prelude.{◌≡◌, ℕ, Bool, true, false, List, slice_get, Option, Some, None}
use Rattle.std.specs.List.{list_any}
use Rattle.std.specs.declared.cmp.Ordering.{Ordering}
use Rattle.std.specs.Ordering.{nat_cmp, bool_cmp, ordering_then}
use Rattle.std.specs.BTreeMap.{BTreeMap}
use Rattle.std.specs.BTreeMap as map
use Rattle.srv6_rules.specs.declared.family.Family.TheVariants as families
use Rattle.net_model.specs.declared.parts.Route.{Route}
use Rattle.net_model.specs.NetworkRules.{same_family, same_route}
use Rattle.update_spec.specs.Equal.{equal_route}
use Rattle.update_joined.specs.declared.known_routes.RouteKey.{RouteKey}

-- by node, table, family, address and length
abbrev pub route_key_cmp : RouteKey → RouteKey → Ordering
route_key_cmp a b =
    ordering_then (nat_cmp a.node b.node) (ordering_then (nat_cmp a.table b.table) (ordering_then (bool_cmp a.is_ipv6 b.is_ipv6)
    (ordering_then (nat_cmp a.address b.address) (nat_cmp a.len b.len))))

abbrev pub route_key : Route → RouteKey
route_key r = record {
  node = r.node;
  table = r.table;
  is_ipv6 = same_family r.family families.V6;
  address = r.prefix.value;
  len = r.prefix.len;
}

-- with a number it is that of a route that is the same, and with none no route is
abbrev pub TellsOf : List Route → Route → Option ℕ → Type 0
TellsOf routes q None = list_any (same_route q) routes ≡ false
TellsOf routes q (Some n) = (r : Route) × (slice_get routes n ≡ Some r) × (same_route q r ≡ true)

-- the map tells of each route
abbrev pub AreNumbered : BTreeMap RouteKey ℕ → List Route → Type 0
AreNumbered numbers routes = (q : Route) → TellsOf routes q (map.get route_key_cmp numbers (route_key q))

-- a route that is there is equal
abbrev pub equal_at : Route → Option Route → Bool
equal_at q None = false
equal_at q (Some r) = equal_route q r
