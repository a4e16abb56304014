use Rattle.std.proofs.Common.{◌≡◌, ◌++◌, drop}
use Rattle.net_plan.specs.LinkMetrics.{metrics_from}
use Rattle.net_plan.proofs.link_metrics.link_metrics.Given as goal

abbrev pub invariant-loop-n : goal.invariant-loop-n
invariant-loop-n l =
    l.metrics.items ++ metrics_from l.plan l.links l.down l.nodes l.n (drop l.n l.all) ≡ metrics_from l.plan l.links l.down l.nodes 0 l.all
