use Rattle.std.proofs.Common.{map}
use Rattle.toml.specs.View.{view, table_view}
use Rattle.plan_syntax.specs.PlanTree.{table_in}
use Rattle.plan_syntax.proofs.PlanListReading.{HasRead}
use Rattle.plan_syntax.proofs.plan_items.each_table.Given as goal

abbrev pub invariant-loop-value : goal.invariant-loop-value
invariant-loop-value l =
    HasRead (λ n. table_in l.place l.key) view 0 l.values l.value-index (map (λ t. table_view t.now) l.tables.items)
