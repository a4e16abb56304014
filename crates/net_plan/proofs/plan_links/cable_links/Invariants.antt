use Rattle.std.proofs.Common.{◌≡◌, [], ◌++◌, drop, take}
use Rattle.net_plan.specs.CableLinks.{cable_links}
use Rattle.net_plan.proofs.plan_links.cable_links.Given as goal

abbrev pub invariant-loop-n : goal.invariant-loop-n
invariant-loop-n l =
    l.links.items ++ cable_links l.mtu (take l.n l.cables) (drop l.n l.cables) ≡ cable_links l.mtu [] l.cables
