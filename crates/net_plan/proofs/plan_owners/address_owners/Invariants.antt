use Rattle.std.proofs.Common.{◌≡◌, ◌++◌, drop}
use Rattle.net_plan.specs.PlanOwners.{address_owners}
use Rattle.net_plan.proofs.plan_owners.address_owners.Given as goal

abbrev pub invariant-loop-n : goal.invariant-loop-n
invariant-loop-n l = l.all.items ++ address_owners l.n (drop l.n l.nodes) ≡ address_owners 0 l.nodes
