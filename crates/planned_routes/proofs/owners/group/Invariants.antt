use Rattle.std.proofs.Common.{◌≡◌, [], ◌++◌, drop, take}
use Rattle.planned_routes.specs.Grouping.{grouped}
use Rattle.planned_routes.proofs.owners.group.Given as goal

abbrev pub invariant-loop-n : goal.invariant-loop-n
invariant-loop-n l =
    l.all.items ++ grouped l.owners (take l.n l.owners) (drop l.n l.owners) ≡ grouped l.owners [] l.owners
