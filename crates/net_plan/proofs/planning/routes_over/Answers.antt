use Rattle.std.proofs.Common.{◌∙◌, List, [], ◌++◌, ap}
use Rattle.net_plan.specs.declared.exits.Exit.{Exit}
use Rattle.net_plan.specs.ExitRoutes.{routes_out}
use Rattle.net_plan.proofs.RoutesFit.{has_planned}
use Rattle.net_plan.proofs.planning.routes_over.Goals as goal

pub returns : goal.returns
returns c =
    let net = c.args.net.now in
    let there = c.in_ok-there.ensures ∙ ap (λ (es : List Exit). net.routes ++ routes_out es net.routes [] es) c.as_slice.ensures.value in
    has_planned c.args.plan.now c.args.down.now c.args.nodes.now net c.in_ok-exits.exits.items c.as_slice-slice.result.now
    c.in_ok-there.there.items c.as_slice-2.result.now c.in_ok-routes.routes.items c.append.new.self.items c.in_ok-exits.ensures
    c.as_slice-slice.ensures.value there c.as_slice-2.ensures.value c.in_ok-routes.ensures c.in_ok-append.ensures.items
