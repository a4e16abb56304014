use Rattle.std.proofs.Common.{◌≡◌, ◌++◌, drop}
use Rattle.planned_routes.specs.Grouping.{nodes_with}
use Rattle.planned_routes.proofs.owners.nodes_with.Given as goal

abbrev pub invariant-loop-owner : goal.invariant-loop-owner
invariant-loop-owner l =
    l.nodes.items ++ nodes_with (drop l.owner-index l.owners) l.key ≡ nodes_with l.owners l.key
