use Rattle.std.proofs.Common.{sym, subst}
use Rattle.text_faults.specs.TextReading.{Gives}
use Rattle.net_model.specs.Network.{Network}
use Rattle.net_model.specs.NetworkTerms.{network_of}
use Rattle.net_plan.specs.PlannedNetwork.{with_routes}
use Rattle.net_plan.proofs.RoutesFit.{planned_in_range, answers_by, copied_with}
use Rattle.net_plan.proofs.planning.plan_over.Goals as goal

pub build_with-requires-clause-routes : goal.build_with-requires-clause-routes
build_with-requires-clause-routes c =
    planned_in_range c.args.plan.now c.args.down.now c.args.nodes.now c.args.net.now c.in-Ok.routes.items c.requires
    c.keeps_rules.ensures.facts c.keeps_rules.ensures.range c.in-Ok.ensures

pub returns : goal.returns
returns c =
    let net = c.args.net.now in
    let all = c.in-Ok.routes.items in
    let same = copied_with (network_of c.in_ok-parts.parts) net all c.in_ok-parts.ensures in
    answers_by c.args.plan.now c.args.down.now c.args.nodes.now net all c.build_with.result c.in-Ok.ensures
    (subst (λ (n : Network). Gives (λ built. built) c.build_with.result (with_routes n all)) (sym same) c.build_with.ensures)
