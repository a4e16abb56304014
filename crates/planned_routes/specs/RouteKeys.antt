-- Need not be believed: helps proofs and other laws.
-- What tells a route from others, in an order, so that a set can hold those that are there.
use Rattle.std.specs.Prelude.{◌≡◌, List}
use Rattle.std.specs.declared.cmp.Ordering.{Ordering}
use Rattle.std.specs.Ordering.{nat_cmp, bool_cmp, ordering_then}
use Rattle.std.specs.BTreeSet.{BTreeSet}
use Rattle.std.specs.BTreeSet as tree
use Rattle.srv6_rules.specs.declared.family.Family.TheVariants as families
use Rattle.net_model.specs.declared.parts.Route.{Route}
use Rattle.net_model.specs.NetworkRules.{same_family, same_route}
use Rattle.net_model.specs.NetworkJudging.{stands_before}
use Rattle.planned_routes.specs.declared.route_keys.RouteKey.{RouteKey}

-- by node, table, family, address and length
abbrev pub route_key_cmp : RouteKey → RouteKey → Ordering
route_key_cmp a b =
    ordering_then (nat_cmp a.node b.node) (ordering_then (nat_cmp a.table b.table) (ordering_then (bool_cmp a.is_ipv6 b.is_ipv6)
    (ordering_then (nat_cmp a.address b.address) (nat_cmp a.len b.len))))

abbrev pub route_key : Route → RouteKey
route_key r = record {
  node = r.node;
  table = r.table;
  is_ipv6 = same_family r.family families.V6;
  address = r.prefix.value;
  len = r.prefix.len;
}

-- the keys tell of each route whether one of its node, table and prefix is there
abbrev pub HasKeys : BTreeSet RouteKey → List Route → Type 0
HasKeys keys there = (r : Route) → tree.contains route_key_cmp keys (route_key r) ≡ stands_before same_route there r
