-- Need not be believed: no program stands on it yet.
-- The links of a description with those of a plan's cables and sites behind them.
use Rattle.std.specs.Prelude.{ℕ, ◌+◌, Bool, true, false, ◌==◌, ◌&&◌, ◌||◌, not, if◌then◌else◌, count_by, find, List, [], ◌∷◌, ◌++◌, length, Option, Some, None, is_some, option_map, Result, Ok, Err, bytes_eq}
use Rattle.std.specs.List.{list_any, list_all}
use Rattle.std.specs.Fmt.{decimal}
use Rattle.net_model.specs.declared.limits.TheConstants.{MAX_LINK_MTU}
use Rattle.net_model.specs.NetworkRules.{is_name}
use Rattle.toml_reader.specs.TomlReading.{◌>>=◌}
use Rattle.net_syntax.specs.declared.node_table.DescribedNode.{DescribedNode}
use Rattle.net_syntax.specs.declared.link_table.DescribedLink.{DescribedLink}
use Rattle.plan_syntax.specs.declared.plan_places.PlanTable.TheVariants as tables
use Rattle.plan_syntax.specs.declared.plan_faults.PlanFault.{PlanFault}
use Rattle.plan_syntax.specs.declared.plan_faults.PlanFaultKind.TheVariants as kinds
use Rattle.plan_syntax.specs.PlanFaults.{plan_fault_at}
use Rattle.plan_syntax.specs.declared.two_names.TwoNames.{TwoNames}
use Rattle.plan_syntax.specs.declared.cable_table.DescribedCable.{DescribedCable}
use Rattle.plan_syntax.specs.declared.metric_table.DescribedMetric.{DescribedMetric}
use Rattle.plan_syntax.specs.declared.locator_table.DescribedLocator.{DescribedLocator}
use Rattle.plan_syntax.specs.declared.site_table.DescribedSite.{DescribedSite}
use Rattle.plan_syntax.specs.declared.plan_table.DescribedPlan.{DescribedPlan}
use Rattle.net_plan.specs.declared.plan_links.PlanLink.{PlanLink}

-- ---- the names of a cable's links

-- nothing behind the names of the first cable between two nodes, of each later one its number
abbrev pub number_behind : ℕ → List ℕ
number_behind number = if number == 1 then [] else 45 ∷ decimal number

-- A-B, A-B-2
abbrev pub made_name : ℕ → List ℕ → List ℕ → List ℕ
made_name number a b = a ++ 45 ∷ (b ++ number_behind number)

abbrev pub are_these : TwoNames → List ℕ → List ℕ → Bool
are_these names a b = bytes_eq names.first a && bytes_eq names.second b

-- a cable without names between the two nodes, either way
abbrev pub lies_between : TwoNames → DescribedCable → Bool
lies_between nodes c =
    not (is_some c.links) && (are_these c.nodes nodes.first nodes.second || are_these c.nodes nodes.second nodes.first)

-- cables without names between two nodes are counted from 1
abbrev pub cable_number : List DescribedCable → DescribedCable → ℕ
cable_number before c = count_by (lies_between c.nodes) before + 1

abbrev pub names_made : ℕ → TwoNames → TwoNames
names_made number nodes =
    record { first = made_name number nodes.first nodes.second; second = made_name number nodes.second nodes.first }

abbrev pub names_or : TwoNames → Option TwoNames → TwoNames
names_or made None = made
names_or made (Some names) = names

-- the names of the links of a cable, behind those before it: the one from its first node, and the one back
abbrev pub link_names : List DescribedCable → DescribedCable → TwoNames
link_names before c = names_or (names_made (cable_number before c) c.nodes) c.links

-- ---- links, each with the place that its faults have, and its metric where the plan's cable has one

-- the MTU of a cable's link, else that of the plan, else the largest
abbrev pub mtu_or : Option ℕ → Option ℕ → ℕ
mtu_or (Some mtu) plan = mtu
mtu_or None (Some mtu) = mtu
mtu_or None None = MAX_LINK_MTU

-- the link of a cable from its first node to its second
abbrev pub link_there : Option ℕ → List DescribedCable → DescribedCable → PlanLink
link_there mtu before c = record {
  place = record { table = tables.Cable; item = length before + 1 };
  link = record {
    name = (link_names before c).first;
    from = c.nodes.first;
    to = Some c.nodes.second;
    mtu = mtu_or c.mtus.there mtu;
  };
  metric = c.metrics.there;
}

-- and the one back
abbrev pub link_back : Option ℕ → List DescribedCable → DescribedCable → PlanLink
link_back mtu before c = record {
  place = record { table = tables.Cable; item = length before + 1 };
  link = record {
    name = (link_names before c).second;
    from = c.nodes.second;
    to = Some c.nodes.first;
    mtu = mtu_or c.mtus.back mtu;
  };
  metric = c.metrics.back;
}

-- the link of a site, which leaves the network
abbrev pub site_link : ℕ → DescribedSite → PlanLink
site_link n s = record {
  place = record { table = tables.Site; item = n };
  link = record { name = s.link; from = s.node; to = None; mtu = MAX_LINK_MTU };
  metric = None;
}

-- of cables, some of which stand before
abbrev pub cable_links : Option ℕ → List DescribedCable → List DescribedCable → List PlanLink
cable_links mtu before [] = []
cable_links mtu before (c ∷ cs) = link_there mtu before c ∷ (link_back mtu before c ∷ cable_links mtu (before ++ c ∷ []) cs)

-- of sites, the first of which has the number n
abbrev pub site_links : ℕ → List DescribedSite → List PlanLink
site_links n [] = []
site_links n (s ∷ ss) = site_link n s ∷ site_links (n + 1) ss

-- those of the cables, then those of the sites
abbrev pub plan_links : DescribedPlan → List PlanLink
plan_links plan = cable_links plan.mtu [] plan.cables ++ site_links 1 plan.sites

-- ---- a link more, where it isn't there

abbrev pub is_node : List DescribedNode → List ℕ → Bool
is_node nodes name = list_any (λ n. bytes_eq n.name name) nodes

abbrev pub is_end : List DescribedNode → Option (List ℕ) → Bool
is_end nodes None = true
is_end nodes (Some to) = is_node nodes to

abbrev pub same_end : Option (List ℕ) → Option (List ℕ) → Bool
same_end None None = true
same_end None (Some b) = false
same_end (Some a) None = false
same_end (Some a) (Some b) = bytes_eq a b

abbrev pub same_ends : DescribedLink → DescribedLink → Bool
same_ends m l = bytes_eq m.from l.from && same_end m.to l.to

-- the link of that name, where there is one: it has the same ends or not
abbrev pub ends_there : List DescribedLink → DescribedLink → Option Bool
ends_there there l = option_map (λ m. same_ends m l) (find (λ m. bytes_eq m.name l.name) there)

-- beside the link of its name: it is that one, or has other ends
abbrev pub enter_beside : List DescribedLink → PlanLink → Option Bool → Result (List DescribedLink) PlanFault
enter_beside there l None = Ok (there ++ l.link ∷ [])
enter_beside there l (Some same) = if same then Ok there else Err (plan_fault_at l.place kinds.DoubleName)

-- its nodes are known, then its name is one, then no link has it with other ends
abbrev pub enter_link : List DescribedNode → List DescribedLink → PlanLink → Result (List DescribedLink) PlanFault
enter_link nodes there l =
    if not (is_node nodes l.link.from && is_end nodes l.link.to) then Err (plan_fault_at l.place kinds.UnknownName)
    else if not (is_name l.link.name) then Err (plan_fault_at l.place kinds.BadName)
    else enter_beside there l (ends_there there l.link)

abbrev pub enter_links : List DescribedNode → List DescribedLink → List PlanLink → Result (List DescribedLink) PlanFault
enter_links nodes there [] = Ok there
enter_links nodes there (l ∷ ls) = do
  more ← enter_link nodes there l
  enter_links nodes more ls

-- ---- names that have to be known

abbrev pub is_link : List DescribedLink → List ℕ → Bool
is_link links name = list_any (λ l. bytes_eq l.name name) links

-- the links that a plan names, the first of which has the number n
abbrev pub know_links : ℕ → List DescribedLink → List DescribedMetric → Result (Unit {0}) PlanFault
know_links n links [] = Ok tt
know_links n links (m ∷ ms) =
    if is_link links m.name then know_links (n + 1) links ms
    else Err (plan_fault_at (record { table = tables.Link; item = n }) kinds.UnknownName)

-- the nodes of locators
abbrev pub know_nodes : ℕ → List DescribedNode → List DescribedLocator → Result (Unit {0}) PlanFault
know_nodes n nodes [] = Ok tt
know_nodes n nodes (l ∷ ls) =
    if list_all (is_node nodes) l.nodes then know_nodes (n + 1) nodes ls
    else Err (plan_fault_at (record { table = tables.Locator; item = n }) kinds.UnknownName)

-- ---- the whole: cables, sites, then the links and the nodes that the plan names

abbrev pub links_with : List DescribedNode → List DescribedLink → DescribedPlan → Result (List DescribedLink) PlanFault
links_with nodes there plan = do
  links ← enter_links nodes there (plan_links plan)
  named ← know_links 1 links plan.links
  known ← know_nodes 1 nodes plan.locators
  Ok links
