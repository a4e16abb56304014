-- Need not be believed: helps proofs and other laws.
-- The ranges of what a plan says, and of what comes of it.
use Rattle.std.specs.Prelude.{◌≡◌, ℕ, Bool, true, ◌&&◌, nat_le, List, Option, Some, None, Ok, IsTrue, length}
use Rattle.std.specs.List.{list_all}
use Rattle.net_model.specs.declared.limits.TheConstants.{MAX_NODES}
use Rattle.net_model.specs.declared.parts.Route.{Route}
use Rattle.net_model.specs.NetworkRulesTerms.{is_mtu, is_table, is_prefix_of}
use Rattle.net_model.specs.NetworkJudgingTerms.{few}
use Rattle.net_syntax.specs.declared.family_prefix.FamilyPrefix.{FamilyPrefix}
use Rattle.net_syntax.specs.declared.description.Description.{Description}
use Rattle.net_syntax.specs.DescriptionText.{description_in}
use Rattle.plan_syntax.specs.declared.limits.TheConstants.{MAX_CABLES, MAX_METRICS, MAX_LOCATORS, MAX_SITES, MAX_SITE_PREFIXES, MAX_METRIC}
use Rattle.plan_syntax.specs.declared.both_ways.BothWays.{BothWays}
use Rattle.plan_syntax.specs.declared.cable_table.DescribedCable.{DescribedCable}
use Rattle.plan_syntax.specs.declared.metric_table.DescribedMetric.{DescribedMetric}
use Rattle.plan_syntax.specs.declared.locator_table.DescribedLocator.{DescribedLocator}
use Rattle.plan_syntax.specs.declared.site_table.DescribedSite.{DescribedSite}
use Rattle.plan_syntax.specs.declared.plan_table.DescribedPlan.{DescribedPlan}

abbrev pub metric_fits : ℕ → Bool
metric_fits metric = nat_le 1 metric && nat_le metric MAX_METRIC

-- where it is there it passes
abbrev pub given_fits : (ℕ → Bool) → Option ℕ → Bool
given_fits test None = true
given_fits test (Some n) = test n

abbrev pub both_fit : (ℕ → Bool) → BothWays → Bool
both_fit test numbers = given_fits test numbers.there && given_fits test numbers.back

abbrev pub cable_fits : DescribedCable → Bool
cable_fits c = both_fit metric_fits c.metrics && both_fit is_mtu c.mtus

abbrev pub link_metric_fits : DescribedMetric → Bool
link_metric_fits m = metric_fits m.metric

abbrev pub prefix_fits : FamilyPrefix → Bool
prefix_fits q = is_prefix_of q.family q.prefix

abbrev pub locator_fits : DescribedLocator → Bool
locator_fits l = is_table l.table && (prefix_fits l.prefix && nat_le (length l.nodes) MAX_NODES)

abbrev pub site_fits : DescribedSite → Bool
site_fits s = is_table s.table && few MAX_SITE_PREFIXES prefix_fits s.prefixes

pub record IsPlan (said : DescribedPlan) : Type 0 where
  pub metric : IsTrue (metric_fits said.metric)
  pub mtu : IsTrue (given_fits is_mtu said.mtu)
  pub cables : IsTrue (few MAX_CABLES cable_fits said.cables)
  pub links : IsTrue (few MAX_METRICS link_metric_fits said.links)
  pub locators : IsTrue (few MAX_LOCATORS locator_fits said.locators)
  pub sites : IsTrue (few MAX_SITES site_fits said.sites)

-- a text says it
abbrev pub IsDescribed : Description → Type 0
IsDescribed said = (text : List ℕ) × (description_in text ≡ Ok said)

-- the tables and prefixes of routes
abbrev pub route_fits : Route → Bool
route_fits r = is_table r.table && is_prefix_of r.family r.prefix

abbrev pub AreRoutesInRange : List Route → Type 0
AreRoutesInRange routes = IsTrue (list_all route_fits routes)
