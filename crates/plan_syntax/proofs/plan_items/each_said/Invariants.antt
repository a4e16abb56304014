use Rattle.toml.specs.View.{table_view}
use Rattle.plan_syntax.proofs.PlanListReading.{HasRead}
use Rattle.plan_syntax.proofs.plan_items.each_said.Given as goal

abbrev pub invariant-loop-i : goal.invariant-loop-i
invariant-loop-i g l =
    HasRead (λ n. g.X.Says.of (record { table = l.kind; item = n })) (λ t. table_view t.now) 1 l.tables l.i l.all.items
