use Rattle.std.proofs.Common.{◌≡◌, ◌+◌, drop}
use Rattle.net_plan.specs.CableLinks.{know_links}
use Rattle.net_plan.proofs.known_names.know_links.Given as goal

abbrev pub invariant-loop-n : goal.invariant-loop-n
invariant-loop-n l = know_links (l.n + 1) l.links (drop l.n l.metrics) ≡ know_links 1 l.links l.metrics
