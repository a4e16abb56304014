use Rattle.std.proofs.Common.{take}
use Rattle.update_joined.specs.RouteKeys.{AreNumbered}
use Rattle.update_joined.proofs.known_routes.number_routes.Given as goal

-- the routes so far have their numbers
abbrev pub invariant-loop-i : goal.invariant-loop-i
invariant-loop-i l = AreNumbered l.numbers (take l.i l.routes)
