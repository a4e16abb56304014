-- Need not be believed: helps proofs and other laws.
-- What the entries of a node's table are, by what they are.
use Rattle.std.specs.Prelude.{◌≡◌, ℕ, true, slice_get, Some}
use Rattle.v6_addr.specs.Address.{PrefixValue}
use Rattle.srv6_rules.specs.declared.family.Family.{Family}
use Rattle.srv6_rules.specs.declared.family.Family.TheVariants as families
use Rattle.srv6_rules.specs.declared.sid.SidEntry.{SidEntry}
use Rattle.net_model.specs.declared.parts.Node.{Node}
use Rattle.net_model.specs.declared.parts.Route.{Route}
use Rattle.net_model.specs.declared.net.Hit.{Hit}
use Rattle.net_model.specs.declared.net.Hit.TheVariants as hits
use Rattle.net_model.specs.Network.{Network, is_shown}
use Rattle.net_model.specs.Best.{Entry}

-- the node's SIDs and its address are in its table 0 of IPv6, and its routes in their tables of their family
abbrev pub IsEntryAs : Network → ℕ → ℕ → Family → PrefixValue → Hit → Type 0
IsEntryAs net node table family p (hits.Sid n) = (s : SidEntry) × (slice_get net.sids n ≡ Some s) × (s.node ≡ node) × (s.prefix ≡ p)
    × (table ≡ 0) × (family ≡ families.V6)
IsEntryAs net node table family p hits.Address = (n : Node) × (slice_get net.nodes node ≡ Some n)
    × (p ≡ record { value = n.address.value; len = 128 }) × (table ≡ 0) × (family ≡ families.V6)
IsEntryAs net node table family p (hits.Route n) = (r : Route) × (slice_get net.routes n ≡ Some r) × (r.node ≡ node) × (r.table ≡ table)
    × (r.family ≡ family) × (r.prefix ≡ p)
IsEntryAs net node table family p hits.Nothing = ⊥

-- those that are hidden are none
abbrev pub IsEntry : Network → ℕ → ℕ → Family → Entry → Type 0
IsEntry net node table family e = IsEntryAs net node table family e.prefix e.hit × (is_shown net.hidden e.hit ≡ true)
