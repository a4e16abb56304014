-- Need not be believed: no program stands on it yet.
-- The nodes that have the prefixes of a plan: locators, SIDs of End, addresses, sites.
use Rattle.std.specs.Prelude.{ℕ, ◌+◌, Bool, true, false, ◌==◌, ◌&&◌, not, nat_le, if◌then◌else◌, List, [], ◌∷◌, ◌++◌, map, Option, Some, None, option_map}
use Rattle.std.specs.List.{list_any, filter_map, flat_map}
use Rattle.v6_addr.specs.Address.{holds_address}
use Rattle.srv6_rules.specs.declared.family.Family.TheVariants.{V6}
use Rattle.srv6_rules.specs.declared.sid.Behaviour.{Behaviour}
use Rattle.srv6_rules.specs.declared.sid.Behaviour.TheVariants.{End, EndX, EndT, Dx6, Dx4, Dt6, Dt4, Dt46, B6, B6Red}
use Rattle.srv6_rules.specs.declared.sid.SidEntry.{SidEntry}
use Rattle.net_model.specs.declared.parts.Node.{Node}
use Rattle.net_model.specs.Network.{Network}
use Rattle.net_model.specs.NetworkRules.{same_family}
use Rattle.net_model.specs.Named.{node_numbered, link_numbered}
use Rattle.net_syntax.specs.declared.family_prefix.FamilyPrefix.{FamilyPrefix}
use Rattle.net_without.specs.Without.{is_up}
use Rattle.plan_syntax.specs.declared.locator_table.DescribedLocator.{DescribedLocator}
use Rattle.plan_syntax.specs.declared.site_table.DescribedSite.{DescribedSite}
use Rattle.plan_syntax.specs.declared.plan_table.DescribedPlan.{DescribedPlan}
use Rattle.planned_routes.specs.declared.owners.Owner.{Owner}
use Rattle.net_plan.specs.declared.exits.Exit.{Exit}

abbrev pub owner_of : ℕ → FamilyPrefix → ℕ → Owner
owner_of table prefix node = record { table = table; family = prefix.family; prefix = prefix.prefix; node = node }

-- ---- locators

abbrev pub locator_owner : List Node → DescribedLocator → List ℕ → Option Owner
locator_owner nodes l name = option_map (owner_of l.table l.prefix) (node_numbered name nodes)

abbrev pub locator_owners : List Node → DescribedLocator → List Owner
locator_owners nodes l = filter_map (locator_owner nodes l) l.nodes

-- ---- SIDs of End

abbrev pub is_end_behaviour : Behaviour → Bool
is_end_behaviour End = true
is_end_behaviour EndX = false
is_end_behaviour (EndT table) = false
is_end_behaviour Dx6 = false
is_end_behaviour Dx4 = false
is_end_behaviour (Dt6 table) = false
is_end_behaviour (Dt4 table) = false
is_end_behaviour (Dt46 table) = false
is_end_behaviour (B6 policy) = false
is_end_behaviour (B6Red policy) = false

-- a SID of the node that is 16 bits shorter and holds the other: that one is nested in it
abbrev pub is_outer_of : SidEntry → SidEntry → Bool
is_outer_of s outer = (outer.node == s.node) && ((outer.prefix.len + 16 == s.prefix.len) && holds_address outer.prefix s.prefix.value)

abbrev pub is_number : ℕ → Option ℕ → Bool
is_number node None = false
is_number node (Some n) = n == node

-- the node is one of the locator's
abbrev pub is_of_node : List Node → ℕ → DescribedLocator → Bool
is_of_node nodes node l = list_any (λ name. is_number node (node_numbered name nodes)) l.nodes

-- a locator of its node, in table 0, holds the SID, or is its prefix
abbrev pub is_held_by : List Node → SidEntry → DescribedLocator → Bool
is_held_by nodes s l =
    (l.table == 0) && (same_family l.prefix.family V6 && (nat_le l.prefix.prefix.len s.prefix.len
    && (holds_address l.prefix.prefix s.prefix.value && is_of_node nodes s.node l)))

abbrev pub is_locator : List Node → List SidEntry → List DescribedLocator → SidEntry → Bool
is_locator nodes sids locators s =
    is_end_behaviour s.behaviour && (not (list_any (is_outer_of s) sids) && not (list_any (is_held_by nodes s) locators))

abbrev pub sid_owner : List Node → List SidEntry → List DescribedLocator → SidEntry → Option Owner
sid_owner nodes sids locators s =
    if is_locator nodes sids locators s then Some (record { table = 0; family = V6; prefix = s.prefix; node = s.node }) else None

-- ---- addresses of nodes, the first of which has the number n

abbrev pub address_owners : ℕ → List Node → List Owner
address_owners n [] = []
address_owners n (node ∷ nodes) =
    record { table = 0; family = V6; prefix = record { value = node.address.value; len = 128 }; node = n } ∷ address_owners (n + 1) nodes

-- ---- sites

abbrev pub exit_of : DescribedSite → ℕ → ℕ → FamilyPrefix → Exit
exit_of s node link prefix = record { at = owner_of s.table prefix node; link = link }

-- a site's prefixes at its node, over its link, where that is up
abbrev pub exits_over : (ℕ → Bool) → DescribedSite → Option ℕ → Option ℕ → List Exit
exits_over up s None link = []
exits_over up s (Some node) None = []
exits_over up s (Some node) (Some link) = if up link then map (exit_of s node link) s.prefixes else []

abbrev pub site_exits : (ℕ → Bool) → Network → DescribedSite → List Exit
site_exits up net s = exits_over up s (node_numbered s.node net.nodes) (link_numbered s.link net.links)

-- what the sites of a plan send out of a network, of whose links these are down and those from and to these nodes
abbrev pub exits_of : DescribedPlan → List ℕ → List ℕ → Network → List Exit
exits_of plan down nodes net = flat_map (site_exits (is_up net down nodes) net) plan.sites

-- other nodes send to the sites of table 0
abbrev pub exit_owner : Exit → Option Owner
exit_owner e = if e.at.table == 0 then Some e.at else None

-- ---- all

abbrev pub end_owners : DescribedPlan → Network → List Owner
end_owners plan net = if plan.ends then filter_map (sid_owner net.nodes net.sids plan.locators) net.sids else []

abbrev pub node_owners : DescribedPlan → Network → List Owner
node_owners plan net = if plan.addresses then address_owners 0 net.nodes else []

abbrev pub owners_of : DescribedPlan → Network → List Exit → List Owner
owners_of plan net exits =
    flat_map (locator_owners net.nodes) plan.locators
    ++ (end_owners plan net ++ (node_owners plan net ++ filter_map exit_owner exits))
