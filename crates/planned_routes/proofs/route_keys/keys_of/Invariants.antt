use Rattle.std.proofs.Common.{take}
use Rattle.planned_routes.specs.RouteKeys.{HasKeys}
use Rattle.planned_routes.proofs.route_keys.keys_of.Given as goal

abbrev pub invariant-loop-route : goal.invariant-loop-route
invariant-loop-route l = HasKeys l.keys (take l.route-index l.there)
