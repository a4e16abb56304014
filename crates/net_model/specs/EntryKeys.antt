-- Need not be believed: helps proofs and other laws.
-- What tells an entry of a table from others, in an order, so that a set can hold those that came before.
use Rattle.std.specs.Prelude.{◌≡◌, ℕ, List}
use Rattle.std.specs.declared.cmp.Ordering.{Ordering}
use Rattle.std.specs.Ordering.{nat_cmp, bool_cmp, ordering_then}
use Rattle.std.specs.BTreeSet.{BTreeSet}
use Rattle.std.specs.BTreeSet as tree
use Rattle.v6_addr.specs.Address.{PrefixValue}
use Rattle.srv6_rules.specs.declared.family.Family.{Family}
use Rattle.srv6_rules.specs.declared.family.Family.TheVariants as families
use Rattle.net_model.specs.declared.parts.Route.{Route}
use Rattle.net_model.specs.declared.route_set.EntryKey.{EntryKey}
use Rattle.net_model.specs.NetworkRules.{same_family, same_route}
use Rattle.net_model.specs.NetworkJudging.{stands_before}

-- by node, table, family, address and length
abbrev pub entry_key_cmp : EntryKey → EntryKey → Ordering
entry_key_cmp a b =
    ordering_then (nat_cmp a.node b.node) (ordering_then (nat_cmp a.table b.table) (ordering_then (bool_cmp a.is_ipv6 b.is_ipv6)
    (ordering_then (nat_cmp a.address b.address) (nat_cmp a.len b.len))))

-- of an entry of a node's table, by its prefix
abbrev pub entry_key : ℕ → ℕ → Family → PrefixValue → EntryKey
entry_key node table family p = record {
  node = node;
  table = table;
  is_ipv6 = same_family family families.V6;
  address = p.value;
  len = p.len;
}

abbrev pub key_of : Route → EntryKey
key_of r = entry_key r.node r.table r.family r.prefix

-- the keys tell of each route whether it stands among the routes
abbrev pub HasKeys : BTreeSet EntryKey → List Route → Type 0
HasKeys keys routes = (r : Route) → tree.contains entry_key_cmp keys (key_of r) ≡ stands_before same_route routes r
