use Rattle.std.proofs.Common.{◌≡◌, drop}
use Rattle.net_plan.specs.LinkMetrics.{named_metric}
use Rattle.net_plan.proofs.link_metrics.named_metric.Given as goal

abbrev pub invariant-loop-said : goal.invariant-loop-said
invariant-loop-said l = named_metric l.name l.metric (drop l.said-index l.metrics) ≡ named_metric l.name l.before l.metrics
