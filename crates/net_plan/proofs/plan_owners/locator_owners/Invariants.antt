use Rattle.std.proofs.Common.{◌≡◌, ◌++◌, drop}
use Rattle.std.specs.List.{filter_map}
use Rattle.net_plan.specs.PlanOwners.{locator_owner}
use Rattle.net_plan.proofs.plan_owners.locator_owners.Given as goal

abbrev pub invariant-loop-name : goal.invariant-loop-name
invariant-loop-name l =
    l.all.items ++ filter_map (locator_owner l.net.nodes l.locator) (drop l.name-index l.locator.nodes)
    ≡ filter_map (locator_owner l.net.nodes l.locator) l.locator.nodes
