use Rattle.shortest_paths.proofs.RoutesInTurn.{plans_next, plans_all}
use Rattle.shortest_paths.proofs.routes.plan_routes.Goals as goal

pub loop-destination-preserved : goal.loop-destination-preserved
loop-destination-preserved c =
    plans_next c.args.nodes c.args.links.now c.args.destinations.now c.loop-destination.destination c.add_routes.new.routes.items
    c.requires.network c.in_ok-add_routes.ensures

pub returns : goal.returns
returns c =
    plans_all c.args.links.now c.args.destinations.now c.loop-destination.destination c.loop-destination.routes.items
    c.loop-destination-test.false c.loop-destination.invariant
