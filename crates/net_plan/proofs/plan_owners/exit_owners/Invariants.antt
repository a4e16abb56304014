use Rattle.std.proofs.Common.{◌≡◌, ◌++◌, drop}
use Rattle.std.specs.List.{filter_map}
use Rattle.net_plan.specs.PlanOwners.{exit_owner}
use Rattle.net_plan.proofs.plan_owners.exit_owners.Given as goal

abbrev pub invariant-loop-exit : goal.invariant-loop-exit
invariant-loop-exit l = l.all.items ++ filter_map exit_owner (drop l.exit-index l.exits) ≡ filter_map exit_owner l.exits
