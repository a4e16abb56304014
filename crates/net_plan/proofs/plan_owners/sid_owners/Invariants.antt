use Rattle.std.proofs.Common.{◌≡◌, ◌++◌, drop}
use Rattle.std.specs.List.{filter_map}
use Rattle.net_plan.specs.PlanOwners.{sid_owner}
use Rattle.net_plan.proofs.plan_owners.sid_owners.Given as goal

abbrev pub invariant-loop-sid : goal.invariant-loop-sid
invariant-loop-sid l =
    l.all.items ++ filter_map (sid_owner l.net.nodes l.net.sids l.locators) (drop l.sid-index l.sids)
    ≡ filter_map (sid_owner l.net.nodes l.net.sids l.locators) l.sids
