use Rattle.std.proofs.Common.{◌≡◌, ◌++◌, drop}
use Rattle.std.specs.List.{flat_map}
use Rattle.net_plan.specs.PlanOwners.{locator_owners}
use Rattle.net_plan.proofs.plan_owners.all_locator_owners.Given as goal

abbrev pub invariant-loop-locator : goal.invariant-loop-locator
invariant-loop-locator l =
    l.all.items ++ flat_map (locator_owners l.net.nodes) (drop l.locator-index l.locators) ≡ flat_map (locator_owners l.net.nodes) l.locators
