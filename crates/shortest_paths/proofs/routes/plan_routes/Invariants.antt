use Rattle.shortest_paths.specs.RoutesTerms.{PlansSoFar}
use Rattle.shortest_paths.proofs.routes.plan_routes.Given as goal

abbrev pub invariant-loop-destination : goal.invariant-loop-destination
invariant-loop-destination l = PlansSoFar l.links l.destinations l.destination 0 l.routes.items
