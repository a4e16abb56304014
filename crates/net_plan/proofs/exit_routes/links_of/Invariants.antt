use Rattle.std.proofs.Common.{◌≡◌, [], drop}
use Rattle.net_plan.specs.ExitRoutes.{links_from}
use Rattle.net_plan.proofs.exit_routes.links_of.Given as goal

abbrev pub invariant-loop-other : goal.invariant-loop-other
invariant-loop-other l = links_from l.exit l.via.items (drop l.other-index l.exits) ≡ links_from l.exit [] l.exits
