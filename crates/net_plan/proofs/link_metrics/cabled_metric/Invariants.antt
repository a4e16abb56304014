use Rattle.std.proofs.Common.{◌≡◌, drop}
use Rattle.net_plan.specs.LinkMetrics.{cabled_metric}
use Rattle.net_plan.proofs.link_metrics.cabled_metric.Given as goal

abbrev pub invariant-loop-link : goal.invariant-loop-link
invariant-loop-link l = cabled_metric l.name l.metric (drop l.link-index l.links) ≡ cabled_metric l.name l.before l.links
