use Rattle.std.proofs.Common.{◌≡◌, ◌++◌, drop, map}
use Rattle.planned_routes.specs.declared.destination.Destination.{Destination}
use Rattle.planned_routes.proofs.entering.originators.Given as goal

abbrev pub invariant-loop-destination : goal.invariant-loop-destination
invariant-loop-destination l =
    l.all.items ++ map (λ (d : Destination). d.nodes) (drop l.destination-index l.destinations)
    ≡ map (λ (d : Destination). d.nodes) l.destinations
