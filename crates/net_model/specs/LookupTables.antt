-- Need not be believed: helps proofs and other laws.
-- The tables in which addresses are looked up: one for each node, table number and family that has entries (RFC 8986 sections 4.3 and 4.6
-- to 4.8; one for each number is an own rule).
use Rattle.std.specs.List.{filter}
use Rattle.std.specs.Prelude.{slice_get, ◌≡◌, ◌↔◌, ℕ, ◌+◌, Bool, true, false, ◌==◌, ◌&&◌, if◌then◌else◌, List, [], ◌∷◌, ◌++◌, Option, Some, None}
use Rattle.std.specs.Option.{unwrap_or}
use Rattle.std.specs.declared.cmp.Ordering.{Ordering}
use Rattle.std.specs.Ordering.{nat_cmp, bool_cmp, ordering_then}
use Rattle.std.specs.BTreeMap.{BTreeMap}
use Rattle.std.specs.BTreeMap as map
use Rattle.std.specs.BTreeSet.{BTreeSet}
use Rattle.std.specs.BTreeSet as tree
use Rattle.v6_addr.specs.Address.{PrefixValue}
use Rattle.prefix_table.specs.PrefixTable.{HasPrefix, is_one_prefix, value_at}
use Rattle.srv6_rules.specs.declared.family.Family.{Family}
use Rattle.srv6_rules.specs.declared.family.Family.TheVariants as families
use Rattle.srv6_rules.specs.declared.sid.SidEntry.{SidEntry}
use Rattle.net_model.specs.declared.parts.Node.{Node}
use Rattle.net_model.specs.declared.parts.Route.{Route}
use Rattle.net_model.specs.declared.net.Hit.{Hit}
use Rattle.net_model.specs.declared.net.Hit.TheVariants as hits
use Rattle.net_model.specs.declared.route_set.EntryKey.{EntryKey}
use Rattle.net_model.specs.declared.lookup_tables.TableKey.{TableKey}
use Rattle.net_model.specs.declared.lookup_tables.TableEntry.{TableEntry}
use Rattle.net_model.specs.declared.parts.NetParts.{NetParts}
use Rattle.net_model.specs.declared.hidden.Hidden.{Hidden}
use Rattle.net_model.specs.declared.net.EntryId.{EntryId}
use Rattle.net_model.specs.declared.net.EntryId.TheVariants as ids
use Rattle.net_model.specs.Network.{Network, same_hit, is_shown}
use Rattle.net_model.specs.NetworkTerms.{network_of, network_with, HasFlags}
use Rattle.net_model.specs.NetworkJudgingTerms.{InRange}
use Rattle.net_model.specs.NetworkRules.{same_family}
use Rattle.net_model.specs.NetworkRulesTerms.{IsNetwork}
use Rattle.net_model.specs.Best.{Entry, entries_of}
use Rattle.net_model.specs.EntryKeys.{entry_key_cmp, entry_key}

-- a table of a node of a network
pub record TableOf : Type 0 where
  pub net : Network
  pub node : ℕ
  pub table : ℕ
  pub family : Family

-- a table of prefixes, each with what it is of
abbrev pub HitTable : Type 0
HitTable = List (PrefixValue × Hit)

-- the hit of the first of the entries that have a prefix
abbrev pub first_on : PrefixValue → List Entry → Option Hit
first_on p [] = None
first_on p (e ∷ es) = if is_one_prefix e.prefix p then Some e.hit else first_on p es

-- a table is exact for entries: it has each of their prefixes and no other, with the hit of the first of them
abbrev pub IsExact : List Entry → HitTable → Type 0
IsExact entries t = (p : PrefixValue) → value_at t p ≡ first_on p entries

-- by node, table number and family
abbrev pub table_key_cmp : TableKey → TableKey → Ordering
table_key_cmp a b = ordering_then (nat_cmp a.node b.node) (ordering_then (nat_cmp a.table b.table) (bool_cmp a.is_ipv6 b.is_ipv6))

abbrev pub table_key : ℕ → ℕ → Family → TableKey
table_key node table family = record { node = node; table = table; is_ipv6 = same_family family families.V6 }

-- the table of a node, with a number and for a family; a table that isn't kept has no entries
abbrev pub table_at : BTreeMap TableKey HitTable → ℕ → ℕ → Family → HitTable
table_at tables node table family = unwrap_or (map.get table_key_cmp tables (table_key node table family)) []

-- each table of a network is exact for the entries of that table
abbrev pub AreTables : Network → BTreeMap TableKey HitTable → Type 0
AreTables net tables = (node table : ℕ) (family : Family)
    → IsExact (entries_of net node table family) (table_at tables node table family)

-- what is true of every network that is built: its parts keep the rules and are in range, it has a flag for each route and
-- each SID, and its tables are exact for the entries that are shown
pub record IsNet (parts : NetParts) (hidden : Hidden) (kept : BTreeMap TableKey HitTable) : Type 0 where
  pub rules : IsNetwork (network_of parts)
  pub range : InRange (network_of parts)
  pub flags : HasFlags parts hidden
  pub tables : AreTables (network_with parts hidden) kept

-- ---- while the tables are filled

-- the entry is of the node's table
abbrev pub is_entry_of : ℕ → ℕ → Family → TableEntry → Bool
is_entry_of node table family e = (e.node == node) && ((e.table == table) && same_family e.family family)

-- of entries of many tables those of one
abbrev pub entries_at : List TableEntry → ℕ → ℕ → Family → List Entry
entries_at [] node table family = []
entries_at (e ∷ es) node table family =
    if is_entry_of node table family e then record { hit = e.hit; prefix = e.prefix } ∷ entries_at es node table family
    else entries_at es node table family

-- each table is exact for its entries
abbrev pub AnswerFor : List TableEntry → BTreeMap TableKey HitTable → Type 0
AnswerFor entries tables = (node table : ℕ) (family : Family)
    → IsExact (entries_at entries node table family) (table_at tables node table family)

-- of entries those that are shown
abbrev pub shown_of : List Hit → List TableEntry → List TableEntry
shown_of hidden es = filter (λ e. is_shown hidden e.hit) es

-- the keys tell of each prefix whether it is in a table
abbrev pub AreTaken : BTreeSet EntryKey → BTreeMap TableKey HitTable → Type 0
AreTaken taken tables = (node table : ℕ) (family : Family) (p : PrefixValue)
    → (tree.contains entry_key_cmp taken (entry_key node table family p) ≡ true) ↔ HasPrefix (table_at tables node table family) p

-- the tables with one entry more, after the others of its table
abbrev pub HasOneMore : TableEntry → BTreeMap TableKey HitTable → BTreeMap TableKey HitTable → Type 0
HasOneMore e old new = (node table : ℕ) (family : Family) → table_at new node table family
    ≡ (if is_entry_of node table family e then table_at old node table family ++ (e.prefix, e.hit) ∷ [] else table_at old node table family)

-- the entries of items, the first of which has the number n
abbrev pub entries_from : {X : Type 0} → (ℕ → X → TableEntry) → ℕ → List X → List TableEntry
entries_from entry n [] = []
entries_from entry n (x ∷ xs) = entry n x ∷ entries_from entry (n + 1) xs

-- a SID stands in its node's table 0 of IPv6
abbrev pub sid_entry : ℕ → SidEntry → TableEntry
sid_entry n s = record { node = s.node; table = 0; family = families.V6; hit = hits.Sid n; prefix = s.prefix }

-- and so does a node's own address, as a prefix of all its bits
abbrev pub address_entry : ℕ → Node → TableEntry
address_entry n node =
    record { node = n; table = 0; family = families.V6; hit = hits.Address; prefix = record { value = node.address.value; len = 128 } }

abbrev pub route_entry : ℕ → Route → TableEntry
route_entry n r = record { node = r.node; table = r.table; family = r.family; hit = hits.Route n; prefix = r.prefix }

-- the entries of all tables: the SIDs, then the nodes' addresses, then the routes
abbrev pub all_entries : Network → List TableEntry
all_entries net =
    entries_from sid_entry 0 net.sids ++ (entries_from address_entry 0 net.nodes ++ entries_from route_entry 0 net.routes)

-- ---- an entry comes or goes

-- the entry of a route or a SID
abbrev pub IsListed : Network → EntryId → TableEntry → Type 0
IsListed net (ids.Route n) e = (r : Route) × (slice_get net.routes n ≡ Some r) × (e ≡ route_entry n r)
IsListed net (ids.Sid n) e = (s : SidEntry) × (slice_get net.sids n ≡ Some s) × (e ≡ sid_entry n s)
IsListed net (ids.Address n) e = ⊥

-- the first of entries that is shown and stands in an entry's table on its prefix
abbrev pub first_at : List Hit → TableEntry → List TableEntry → Option Hit
first_at hidden e es = first_on e.prefix (filter (λ f. is_shown hidden f.hit) (entries_at es e.node e.table e.family))

-- it stands in another's table on its prefix, and is shown
abbrev pub stands_on : List Hit → TableEntry → TableEntry → Bool
stands_on hidden e f = (is_entry_of e.node e.table e.family f && is_one_prefix f.prefix e.prefix) && is_shown hidden f.hit

-- a hit that isn't a route's
abbrev pub unless_route : Option Hit → Option Hit
unless_route None = None
unless_route (Some (hits.Sid n)) = Some (hits.Sid n)
unless_route (Some hits.Address) = Some hits.Address
unless_route (Some (hits.Route n)) = None
unless_route (Some hits.Nothing) = Some hits.Nothing

-- the tables are still those from before an entry's flag was set or cleared
abbrev pub AreTablesBefore : Network → Hit → BTreeMap TableKey HitTable → Type 0
AreTablesBefore net h tables = (was : List Hit) × ((k : Hit) → same_hit h k ≡ false → is_shown net.hidden k ≡ is_shown was k)
    × AreTables (record net { hidden = was }) tables

-- a table with another hit on a prefix, or none; the rest is as it was
abbrev pub SettlesIn : PrefixValue → Option Hit → HitTable → HitTable → Type 0
SettlesIn p hit old new = (q : PrefixValue) → value_at new q ≡ (if is_one_prefix p q then hit else value_at old q)

-- of all tables that of an entry has another hit on its prefix, or none; the rest is as it was
abbrev pub Settles : TableEntry → Option Hit → BTreeMap TableKey HitTable → BTreeMap TableKey HitTable → Type 0
Settles e hit old new = (node table : ℕ) (family : Family) (q : PrefixValue) → value_at (table_at new node table family) q
    ≡ (if is_entry_of node table family e && is_one_prefix e.prefix q then hit else value_at (table_at old node table family) q)
