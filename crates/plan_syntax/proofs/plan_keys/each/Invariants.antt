use Rattle.toml.specs.View.{view}
use Rattle.plan_syntax.proofs.PlanListReading.{HasRead}
use Rattle.plan_syntax.proofs.plan_keys.each.Given as goal

abbrev pub invariant-loop-value : goal.invariant-loop-value
invariant-loop-value g l = HasRead (λ n. g.X.PlanValue.kind l.place l.key) view 0 l.values l.value-index l.members.items
