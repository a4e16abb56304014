-- The entries of a node's table, and the one that fits an address best: the longest prefix (RFC 1812 section 5.2.4.3, rule 2).
use Rattle.std.specs.Prelude.{ℕ, Bool, false, ◌+◌, ◌==◌, ◌&&◌, nat_lt, if◌then◌else◌, List, [], ◌∷◌, ◌++◌, slice_get, Option, Some, None}
use Rattle.v6_addr.specs.Address.{PrefixValue, holds_address}
use Rattle.srv6_rules.specs.declared.family.Family.{Family}
use Rattle.srv6_rules.specs.declared.family.Family.TheVariants as families
use Rattle.srv6_rules.specs.declared.sid.SidEntry.{SidEntry}
use Rattle.net_model.specs.declared.parts.Node.{Node}
use Rattle.net_model.specs.declared.parts.Route.{Route}
use Rattle.net_model.specs.declared.net.Hit.{Hit}
use Rattle.net_model.specs.declared.net.Hit.TheVariants as hits
use Rattle.std.specs.List.{filter}
use Rattle.net_model.specs.Network.{Network, is_shown}
use Rattle.net_model.specs.NetworkRules.{same_family}

-- an entry of a table: what it is, and its prefix
pub record Entry : Type 0 where
  pub hit : Hit
  pub prefix : PrefixValue

-- the SIDs of a node among these, the first of which has the number n
abbrev pub sid_entries : ℕ → ℕ → List SidEntry → List Entry
sid_entries node n [] = []
sid_entries node n (s ∷ ss) =
    if s.node == node then record { hit = hits.Sid n; prefix = s.prefix } ∷ sid_entries node (n + 1) ss else sid_entries node (n + 1) ss

-- the route is the node's, in the table and of the family
abbrev pub is_route_of : ℕ → ℕ → Family → Route → Bool
is_route_of node table family r = (r.node == node) && ((r.table == table) && same_family r.family family)

-- the routes of a family in a node's table among these, the first of which has the number n
abbrev pub route_entries : ℕ → ℕ → Family → ℕ → List Route → List Entry
route_entries node table family n [] = []
route_entries node table family n (r ∷ rs) =
    if is_route_of node table family r then record { hit = hits.Route n; prefix = r.prefix } ∷ route_entries node table family (n + 1) rs
    else route_entries node table family (n + 1) rs

-- the node's own address, as a prefix of all its bits
abbrev pub address_entries : Option Node → List Entry
address_entries None = []
address_entries (Some node) = record { hit = hits.Address; prefix = record { value = node.address.value; len = 128 } } ∷ []

-- the table that has the node's SIDs and its address: table 0 of IPv6
abbrev pub has_sids : ℕ → Family → Bool
has_sids table families.V6 = table == 0
has_sids table families.V4 = false

-- the entries of a node's table, hidden or not: table 0 of IPv6 has the node's SIDs, its address and its routes, other
-- tables have routes alone; the IPv4 routes of a table stand apart
abbrev pub all_entries_of : Network → ℕ → ℕ → Family → List Entry
all_entries_of net node table family =
    if has_sids table family
    then sid_entries node 0 net.sids ++ (address_entries (slice_get net.nodes node) ++ route_entries node table family 0 net.routes)
    else route_entries node table family 0 net.routes

-- the entries that are shown
abbrev pub entries_of : Network → ℕ → ℕ → Family → List Entry
entries_of net node table family = filter (λ e. is_shown net.hidden e.hit) (all_entries_of net node table family)

-- of what was found first and what was found later the longer, and of equally long ones the first
abbrev pub longer : Option Entry → Option Entry → Option Entry
longer None later = later
longer (Some e) None = Some e
longer (Some e) (Some f) = if nat_lt e.prefix.len f.prefix.len then Some f else Some e

-- the first of the longest entries that hold the address
abbrev pub longest : ℕ → List Entry → Option Entry
longest a [] = None
longest a (e ∷ es) = if holds_address e.prefix a then longer (Some e) (longest a es) else longest a es

abbrev pub hit_of : Option Entry → Hit
hit_of None = hits.Nothing
hit_of (Some e) = e.hit

-- the look-up of an address of a family
unfoldable pub lookup_of : Network → ℕ → ℕ → Family → ℕ → Hit
lookup_of net node table family a = hit_of (longest a (entries_of net node table family))
