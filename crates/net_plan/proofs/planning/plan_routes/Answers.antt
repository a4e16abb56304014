use Rattle.std.proofs.Common.{◌≡◌, ◌<◌, ◌≤◌, ℕ, List, Option, length, sym, ◌∙◌, ap, subst}
use Rattle.std.specs.Prelude.{All, IfOk}
use Rattle.std.proofs.lemmas.List.Elements.{All-weaker}
use Rattle.net_model.specs.Network.{Network}
use Rattle.planned_routes.specs.declared.owners.Owner.{Owner}
use Rattle.planned_routes.specs.PlannedRoutes.{ArePlanned, weighed_links}
use Rattle.planned_routes.specs.PlannedRoutesTerms.{IsMetric}
use Rattle.net_plan.specs.CableLinks.{plan_links}
use Rattle.net_plan.specs.LinkMetrics.{metrics_from, metrics_of}
use Rattle.net_plan.specs.PlanOwners.{exits_of, owners_of}
use Rattle.net_plan.proofs.MetricsMet.{metrics_are}
use Rattle.net_plan.proofs.OwnersMet.{OwnerFits, owners_fit, owners_few}
use Rattle.net_plan.proofs.planning.plan_routes.Goals as goal

pub planned_routes-requires-clause-metrics : goal.planned_routes-requires-clause-metrics
planned_routes-requires-clause-metrics c =
    let plan = c.args.plan.now in
    let down = c.args.down.now in
    let nodes = c.args.nodes.now in
    let same : c.as_slice-2.result.now ≡ metrics_of plan down nodes c.args.net.now.links =
    c.as_slice-2.ensures.value ∙ (c.in_ok-metrics.ensures
    ∙ (ap (λ ls. metrics_from plan ls down nodes 0 c.as_slice-all.result.now) (c.as_slice.ensures.value ∙ c.in_ok-links.ensures)
    ∙ ap (metrics_from plan (plan_links plan) down nodes 0) (c.as_slice-all.ensures.value ∙ ap (λ (n : Network). n.links) c.parts.ensures))) in
    subst (λ (ms : List (Option ℕ)). All IsMetric ms) (sym same) (metrics_are plan down nodes c.args.net.now.links c.requires.plan)

pub planned_routes-requires-clause-nodes : goal.planned_routes-requires-clause-nodes
planned_routes-requires-clause-nodes c =
    let plan = c.args.plan.now in
    let down = c.args.down.now in
    let nodes = c.args.nodes.now in
    let net = c.args.net.now in
    let owners = owners_of plan net (exits_of plan down nodes net) in
    let same : c.as_slice-3.result.now ≡ owners = c.as_slice-3.ensures.value ∙ (c.in_ok-owners.ensures ∙ ap (owners_of plan net) c.requires.exits) in
    let fit = owners_fit net c.keeps_rules.ensures.facts c.keeps_rules.ensures.range plan down nodes c.requires.plan in
    subst (λ (os : List Owner). All (λ (o : Owner). o.node < length net.nodes) os) (sym same)
    (All-weaker (OwnerFits (length net.nodes)) (λ (o : Owner). o.node < length net.nodes) (λ o fits. fits.1) owners fit)

pub planned_routes-requires-clause-few : goal.planned_routes-requires-clause-few
planned_routes-requires-clause-few c =
    let plan = c.args.plan.now in
    let net = c.args.net.now in
    let same = c.as_slice-3.ensures.value ∙ (c.in_ok-owners.ensures ∙ ap (owners_of plan net) c.requires.exits) in
    subst (λ (os : List Owner). length os < 4294967296) (sym same)
    (owners_few net c.keeps_rules.ensures.facts c.keeps_rules.ensures.range plan c.args.down.now c.args.nodes.now c.requires.plan)
