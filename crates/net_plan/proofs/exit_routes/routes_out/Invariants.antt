use Rattle.std.proofs.Common.{◌≡◌, [], ◌++◌, drop, take}
use Rattle.net_plan.specs.ExitRoutes.{routes_out}
use Rattle.net_plan.proofs.exit_routes.routes_out.Given as goal

abbrev pub invariant-loop-n : goal.invariant-loop-n
invariant-loop-n l =
    l.routes.items ++ routes_out l.exits l.there (take l.n l.exits) (drop l.n l.exits) ≡ routes_out l.exits l.there [] l.exits
