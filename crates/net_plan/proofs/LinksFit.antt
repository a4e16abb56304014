-- The links of a plan, and those of a description with them, are in their ranges.
use Rattle.std.proofs.Common.{◌≡◌, ℕ, ◌≤◌, ◌+◌, Bool, true, false, ◌&&◌, List, [], ◌∷◌, ◌++◌, length, Option, Some, None, refl}
use Rattle.std.specs.Prelude.{Ok}
use Rattle.std.specs.List.{list_all}
use Rattle.std.proofs.lemmas.Bool.{and_from, and_parts, le-leb}
use Rattle.net_model.specs.declared.limits.TheConstants.{MAX_LINKS}
use Rattle.net_model.specs.NetworkRules.{is_name}
use Rattle.net_model.specs.NetworkRulesTerms.{is_mtu}
use Rattle.net_model.specs.NetworkJudgingTerms.{InRange}
use Rattle.net_syntax.specs.declared.node_table.DescribedNode.{DescribedNode}
use Rattle.net_syntax.specs.declared.link_table.DescribedLink.{DescribedLink}
use Rattle.net_syntax.specs.declared.description.Description.{Description}
use Rattle.net_reader.specs.Joining.{joined}
use Rattle.net_reader.proofs.DescribedLemmas.{link_fits, Fits}
use Rattle.net_reader.proofs.ReadLemmas.{said_fits}
use Rattle.net_reader.proofs.ReaderRangeLemmas.{in_range}
use Rattle.plan_syntax.specs.declared.cable_table.DescribedCable.{DescribedCable}
use Rattle.plan_syntax.specs.declared.site_table.DescribedSite.{DescribedSite}
use Rattle.plan_syntax.specs.declared.plan_table.DescribedPlan.{DescribedPlan}
use Rattle.net_plan.specs.declared.plan_links.PlanLink.{PlanLink}
use Rattle.net_plan.specs.CableLinks.{mtu_or, cable_links, site_links, plan_links, is_node, is_end, ends_there, enter_beside, enter_link, enter_links, know_links, know_nodes, links_with}
use Rattle.net_plan.specs.PlanRanges.{metric_fits, given_fits, cable_fits, IsPlan, IsDescribed}
use Rattle.net_plan.proofs.PlanYields.{Yields, yielded, yields_next, yields_behind, yields_unless}

pub all_joined : {X : Type 0} (test : X → Bool) (xs ys : List X) → list_all test xs ≡ true → list_all test ys ≡ true → list_all test (xs ++ ys) ≡ true
all_joined test [] ys all more = more
all_joined test (x ∷ xs) ys all more =
    let parts = and_parts _ _ all in
    and_from _ _ parts.0 (all_joined test xs ys parts.1 more)

-- ---- links of a plan

abbrev pub plan_link_fits : PlanLink → Bool
plan_link_fits l = given_fits metric_fits l.metric && is_mtu l.link.mtu

mtu_fits : (own plan : Option ℕ) → given_fits is_mtu own ≡ true → given_fits is_mtu plan ≡ true → is_mtu (mtu_or own plan) ≡ true
mtu_fits (Some mtu) plan fits other = fits
mtu_fits None (Some mtu) fits other = other
mtu_fits None None fits other = refl

cables_fit : (mtu : Option ℕ) (before cs : List DescribedCable) → given_fits is_mtu mtu ≡ true → list_all cable_fits cs ≡ true
    → list_all plan_link_fits (cable_links mtu before cs) ≡ true
cables_fit mtu before [] fits all = refl
cables_fit mtu before (c ∷ cs) fits all =
    let parts = and_parts _ _ all in
    let both = and_parts _ _ parts.0 in
    let metrics = and_parts _ _ both.0 in
    let mtus = and_parts _ _ both.1 in
    and_from _ _ (and_from _ _ metrics.0 (mtu_fits c.mtus.there mtu mtus.0 fits))
    (and_from _ _ (and_from _ _ metrics.1 (mtu_fits c.mtus.back mtu mtus.1 fits)) (cables_fit mtu (before ++ c ∷ []) cs fits parts.1))

sites_fit : (n : ℕ) (ss : List DescribedSite) → list_all plan_link_fits (site_links n ss) ≡ true
sites_fit n [] = refl
sites_fit n (s ∷ ss) = sites_fit (n + 1) ss

pub plan_links_fit : (plan : DescribedPlan) → IsPlan plan → list_all plan_link_fits (plan_links plan) ≡ true
plan_links_fit plan is =
    all_joined plan_link_fits (cable_links plan.mtu [] plan.cables) (site_links 1 plan.sites)
    (cables_fit plan.mtu [] plan.cables is.mtu (and_parts _ _ is.cables).1) (sites_fit 1 plan.sites)

-- ---- links that enter

abbrev AllFit : List DescribedLink → Type 0
AllFit links = list_all link_fits links ≡ true

beside_fits : (there : List DescribedLink) (l : PlanLink) (o : Option Bool) → AllFit there → link_fits l.link ≡ true
    → Yields AllFit (enter_beside there l o)
beside_fits there l None all fits = all_joined link_fits there (l.link ∷ []) all (and_from _ _ fits refl)
beside_fits there l (Some true) all fits = all
beside_fits there l (Some false) all fits = tt

entered_fits : (nodes : List DescribedNode) (there : List DescribedLink) (l : PlanLink) → AllFit there → plan_link_fits l ≡ true
    → Yields AllFit (enter_link nodes there l)
entered_fits nodes there l all fits =
    yields_unless AllFit (is_node nodes l.link.from && is_end nodes l.link.to) _ _
    (λ known. yields_unless AllFit (is_name l.link.name) _ _
    (λ named. beside_fits there l (ends_there there l.link) all (and_from _ _ named (and_parts _ _ fits).1)))

all_entered_fit : (nodes : List DescribedNode) (there : List DescribedLink) (ls : List PlanLink) → AllFit there
    → list_all plan_link_fits ls ≡ true → Yields AllFit (enter_links nodes there ls)
all_entered_fit nodes there [] all fit = all
all_entered_fit nodes there (l ∷ ls) all fit =
    let parts = and_parts _ _ fit in
    yields_next AllFit AllFit (enter_link nodes there l) _ (entered_fits nodes there l all parts.0)
    (λ more holds. all_entered_fit nodes more ls holds parts.1)

with_fits : (nodes : List DescribedNode) (there : List DescribedLink) (plan : DescribedPlan) → IsPlan plan → AllFit there
    → Yields AllFit (links_with nodes there plan)
with_fits nodes there plan is all =
    yields_next AllFit AllFit (enter_links nodes there (plan_links plan)) _
    (all_entered_fit nodes there (plan_links plan) all (plan_links_fit plan is))
    (λ links holds. yields_behind AllFit (know_links 1 links plan.links) _
    (λ named. yields_behind AllFit (know_nodes 1 nodes plan.locators) _ (λ known. holds)))

-- ---- the description with them

pub base_in_range : (said : Description) (plan : DescribedPlan) (links : List DescribedLink) → IsDescribed said → IsPlan plan
    → links_with said.nodes said.links plan ≡ Ok links → length links ≤ MAX_LINKS → InRange (joined (record said { links = links }))
base_in_range said plan links described is given few =
    let fits : Fits said = said_fits described.0 said described.1 in
    let all = yielded AllFit (links_with said.nodes said.links plan) links
    (with_fits said.nodes said.links plan is (and_parts _ _ fits.links).1) given in
    in_range (record said { links = links }) (record {
      blocks = fits.blocks;
      nodes = fits.nodes;
      links = and_from _ _ (le-leb _ _ few) all;
      routes = fits.routes;
      policies = fits.policies;
      sids = fits.sids;
    })
