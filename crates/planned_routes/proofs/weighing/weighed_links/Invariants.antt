use Rattle.std.proofs.Common.{◌≡◌, ◌++◌, drop}
use Rattle.planned_routes.specs.PlannedRoutes.{weighed_from}
use Rattle.planned_routes.proofs.weighing.weighed_links.Given as goal

abbrev pub invariant-loop-n : goal.invariant-loop-n
invariant-loop-n l =
    l.all.items ++ weighed_from l.n l.metrics (drop l.n l.links) ≡ weighed_from 0 l.metrics l.links
