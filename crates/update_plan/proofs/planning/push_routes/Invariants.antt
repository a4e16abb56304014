use Rattle.std.proofs.Common.{◌≡◌, ◌+◌, ◌++◌, length}
use Rattle.net_model.specs.declared.net.EntryId.TheVariants as names
use Rattle.update_spec.specs.Changes.{named_from}
use Rattle.update_plan.proofs.planning.push_routes.Given as goal

-- the names so far and those of the rest are all
abbrev pub invariant-loop-rest : goal.invariant-loop-rest
invariant-loop-rest l = record {
  pushed : l.ids.items ++ named_from names.Route l.n l.rest ≡ l.fn.ids.items ++ named_from names.Route l.first l.routes;
  room : l.n + length l.rest ≡ l.first + length l.routes;
}

abbrev pub decreases-loop-rest : goal.decreases-loop-rest
decreases-loop-rest l = length l.rest
