-- The metrics of a plan are in their range.
use Rattle.std.proofs.Common.{◌≡◌, ℕ, ◌+◌, ◌≤◌, Bool, true, false, List, [], ◌∷◌, Option, Some, None, subst, arith}
use Rattle.std.specs.Prelude.{All, if◌then◌else◌, bytes_eq}
use Rattle.std.specs.List.{list_all}
use Rattle.std.proofs.lemmas.Bool.{and_parts, leb-true}
use Rattle.std.proofs.lemmas.List.Elements.{All-nil, All-cons}
use Rattle.std.proofs.lemmas.Option.{same_Some}
use Rattle.net_model.specs.declared.parts.Link.{Link}
use Rattle.net_without.specs.Without.{is_up_link}
use Rattle.plan_syntax.specs.declared.limits.TheConstants.{MAX_METRIC}
use Rattle.plan_syntax.specs.declared.metric_table.DescribedMetric.{DescribedMetric}
use Rattle.plan_syntax.specs.declared.plan_table.DescribedPlan.{DescribedPlan}
use Rattle.planned_routes.specs.PlannedRoutesTerms.{IsMetric}
use Rattle.net_plan.specs.declared.plan_links.PlanLink.{PlanLink}
use Rattle.net_plan.specs.CableLinks.{plan_links}
use Rattle.net_plan.specs.LinkMetrics.{said_or, cabled_metric, named_metric, metric_of_link, metric_if_up, metrics_from, metrics_of}
use Rattle.net_plan.specs.PlanRanges.{metric_fits, given_fits, link_metric_fits, IsPlan}
use Rattle.net_plan.proofs.LinksFit.{plan_link_fits, plan_links_fit}

abbrev Fits : ℕ → Type 0
Fits m = metric_fits m ≡ true

said_fits : (before : ℕ) (o : Option ℕ) → Fits before → given_fits metric_fits o ≡ true → Fits (said_or before o)
said_fits before None was now = was
said_fits before (Some m) was now = now

chosen_fits : (b : Bool) (now was : ℕ) → Fits now → Fits was → Fits (if b then now else was)
chosen_fits true now was n w = n
chosen_fits false now was n w = w

cabled_fits : (name : List ℕ) (before : ℕ) (ls : List PlanLink) → Fits before → list_all plan_link_fits ls ≡ true
    → Fits (cabled_metric name before ls)
cabled_fits name before [] was all = was
cabled_fits name before (l ∷ ls) was all =
    let parts = and_parts _ _ all in
    cabled_fits name (if bytes_eq l.link.name name then said_or before l.metric else before) ls
    (chosen_fits (bytes_eq l.link.name name) _ before (said_fits before l.metric was (and_parts _ _ parts.0).0) was) parts.1

named_fits : (name : List ℕ) (before : ℕ) (ms : List DescribedMetric) → Fits before → list_all link_metric_fits ms ≡ true
    → Fits (named_metric name before ms)
named_fits name before [] was all = was
named_fits name before (m ∷ ms) was all =
    let parts = and_parts _ _ all in
    named_fits name (if bytes_eq m.name name then m.metric else before) ms (chosen_fits (bytes_eq m.name name) m.metric before parts.0 was) parts.1

metric_fits_of : (plan : DescribedPlan) (name : List ℕ) → IsPlan plan → Fits (metric_of_link plan (plan_links plan) name)
metric_fits_of plan name is =
    named_fits name (cabled_metric name plan.metric (plan_links plan)) plan.links
    (cabled_fits name plan.metric (plan_links plan) is.metric (plan_links_fit plan is)) (and_parts _ _ is.links).1

is_metric : (m : ℕ) → Fits m → IsMetric (Some m)
is_metric m fits n e =
    let parts = and_parts _ _ fits in
    let least : 1 ≤ m = leb-true _ _ parts.0 in
    let most : m ≤ MAX_METRIC = leb-true _ _ parts.1 in
    subst (λ (x : ℕ). (1 ≤ x) × (x ≤ 4294967295)) (same_Some m n e) (least, omega (arith, most))

none_is : IsMetric None
none_is n e = absurd (cc)

here_is : (b : Bool) (m : ℕ) → Fits m → IsMetric (if b then Some m else None)
here_is true m fits = is_metric m fits
here_is false m fits = none_is

metrics_are_from : (plan : DescribedPlan) (down nodes : List ℕ) (n : ℕ) (ls : List Link) → IsPlan plan
    → All IsMetric (metrics_from plan (plan_links plan) down nodes n ls)
metrics_are_from plan down nodes n [] is = All-nil IsMetric
metrics_are_from plan down nodes n (l ∷ ls) is =
    All-cons IsMetric (metric_if_up plan (plan_links plan) down nodes n l) (metrics_from plan (plan_links plan) down nodes (n + 1) ls)
    (here_is (is_up_link down nodes n l) (metric_of_link plan (plan_links plan) l.name) (metric_fits_of plan l.name is))
    (metrics_are_from plan down nodes (n + 1) ls is)

pub metrics_are : (plan : DescribedPlan) (down nodes : List ℕ) (ls : List Link) → IsPlan plan → All IsMetric (metrics_of plan down nodes ls)
metrics_are plan down nodes ls is = metrics_are_from plan down nodes 0 ls is
