-- Need not be believed: no program stands on it yet.
-- The metrics of links: what a plan's cables say, then what it says of links by their names; the last counts.
use Rattle.std.specs.Prelude.{ℕ, ◌+◌, if◌then◌else◌, List, [], ◌∷◌, Option, Some, None, bytes_eq}
use Rattle.net_model.specs.declared.parts.Link.{Link}
use Rattle.net_without.specs.Without.{is_up_link}
use Rattle.plan_syntax.specs.declared.metric_table.DescribedMetric.{DescribedMetric}
use Rattle.plan_syntax.specs.declared.plan_table.DescribedPlan.{DescribedPlan}
use Rattle.net_plan.specs.declared.plan_links.PlanLink.{PlanLink}
use Rattle.net_plan.specs.CableLinks.{plan_links}

abbrev pub said_or : ℕ → Option ℕ → ℕ
said_or before None = before
said_or before (Some metric) = metric

-- the last metric that a cable gives the link of a name, and else what was said before
abbrev pub cabled_metric : List ℕ → ℕ → List PlanLink → ℕ
cabled_metric name before [] = before
cabled_metric name before (l ∷ ls) =
    cabled_metric name (if bytes_eq l.link.name name then said_or before l.metric else before) ls

-- the last metric that is said of a link by its name
abbrev pub named_metric : List ℕ → ℕ → List DescribedMetric → ℕ
named_metric name before [] = before
named_metric name before (m ∷ ms) = named_metric name (if bytes_eq m.name name then m.metric else before) ms

abbrev pub metric_of_link : DescribedPlan → List PlanLink → List ℕ → ℕ
metric_of_link plan links name = named_metric name (cabled_metric name plan.metric links) plan.links

-- of a link, with its number, where it is up
abbrev pub metric_if_up : DescribedPlan → List PlanLink → List ℕ → List ℕ → ℕ → Link → Option ℕ
metric_if_up plan links down nodes n l = if is_up_link down nodes n l then Some (metric_of_link plan links l.name) else None

-- of a network's links, the first of which has the number n, that of each that is up
abbrev pub metrics_from : DescribedPlan → List PlanLink → List ℕ → List ℕ → ℕ → List Link → List (Option ℕ)
metrics_from plan links down nodes n [] = []
metrics_from plan links down nodes n (l ∷ ls) =
    metric_if_up plan links down nodes n l ∷ metrics_from plan links down nodes (n + 1) ls

-- the metrics of a network's links, of which these are down and those from and to these nodes
abbrev pub metrics_of : DescribedPlan → List ℕ → List ℕ → List Link → List (Option ℕ)
metrics_of plan down nodes all = metrics_from plan (plan_links plan) down nodes 0 all
