use Rattle.std.proofs.Common.{sym, arith}
use Rattle.toml.specs.View.{table_view}
use Rattle.plan_syntax.proofs.PlanListReading.{kept_more, reads_end}
use Rattle.plan_syntax.proofs.plan_items.each_table.Goals as goal

pub loop-value-preserved : goal.loop-value-preserved
loop-value-preserved c =
    rw c.in_ok-push.ensures.items
    (kept_more _ _ (λ t. table_view t.now) 0 c.args.values.now c.loop-value.value-index c.loop-value.tables.items c.value-item.result
    c.in_ok-table.table c.loop-value.invariant (omega arith) c.value-item.is (sym c.in_ok-table.ensures))

pub returns : goal.returns
returns c = reads_end _ _ 0 c.args.values.now c.loop-value.value-index _ c.loop-value.invariant (omega arith)
