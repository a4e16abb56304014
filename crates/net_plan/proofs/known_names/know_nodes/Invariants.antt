use Rattle.std.proofs.Common.{◌≡◌, ◌+◌, drop}
use Rattle.net_plan.specs.CableLinks.{know_nodes}
use Rattle.net_plan.proofs.known_names.know_nodes.Given as goal

abbrev pub invariant-loop-n : goal.invariant-loop-n
invariant-loop-n l = know_nodes (l.n + 1) l.nodes (drop l.n l.locators) ≡ know_nodes 1 l.nodes l.locators
