use Rattle.shortest_paths.specs.RoutesTerms.{PlansSoFar}
use Rattle.shortest_paths.proofs.routes.add_routes.Given as goal

abbrev pub invariant-loop-node : goal.invariant-loop-node
invariant-loop-node l = PlansSoFar l.links l.destinations l.destination l.node l.routes.items
