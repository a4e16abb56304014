use Rattle.std.proofs.Common.{◌≡◌, ◌++◌, drop}
use Rattle.planned_routes.specs.Entering.{entering, entries}
use Rattle.planned_routes.specs.RouteKeys.{HasKeys}
use Rattle.planned_routes.proofs.entering.enter.Given as goal

abbrev pub invariant-loop-route : goal.invariant-loop-route
invariant-loop-route l = record {
  keys : HasKeys l.keys (l.there ++ l.new.items);
  so_far : l.new.items ++ entering (l.there ++ l.new.items) (entries l.destinations (drop l.route-index l.routes))
      ≡ entering l.there (entries l.destinations l.routes);
}
