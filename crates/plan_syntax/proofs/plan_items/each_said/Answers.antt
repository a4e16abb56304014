use Rattle.std.proofs.Common.{arith}
use Rattle.std.proofs.lemmas.Result.{err_from_is_err_and}
use Rattle.toml.specs.View.{table_view}
use Rattle.plan_syntax.proofs.PlanListReading.{reads_more, reads_stop, reads_end}
use Rattle.plan_syntax.proofs.plan_items.each_said.Goals as goal

pub loop-i-preserved : goal.loop-i-preserved
loop-i-preserved g c =
    rw c.in_ok-push.ensures.items
    (reads_more _ _ 1 c.args.tables.now c.loop-i.i c.loop-i.all.items c.index-tables-i.result c.in_ok-said.said
    c.loop-i.invariant (omega arith) c.index-tables-i.is (rw c.of_item-place.ensures at c.in_ok-said.ensures))

pub returns : goal.returns
returns g c = reads_end _ _ 1 c.args.tables.now c.loop-i.i c.loop-i.all.items c.loop-i.invariant (omega arith)

pub returns-in_err-said : goal.returns-in_err-said
returns-in_err-said g c =
    let p = err_from_is_err_and c.from_residual.result c.from_residual.ensures.1 in
    rw (p.1, p.2) (λ fault same.
    reads_stop (λ n. g.X.Says.of (record { table = c.args.kind; item = n })) (λ t. table_view t.now) 1 c.args.tables.now
    c.loop-i.i c.loop-i.all.items c.index-tables-i.result fault c.loop-i.invariant (omega arith) c.index-tables-i.is
    (rw c.of_item-place.ensures at (c.in_err-said.ensures fault same)))
