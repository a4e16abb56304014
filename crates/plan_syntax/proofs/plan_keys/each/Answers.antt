use Rattle.std.proofs.Common.{arith}
use Rattle.std.proofs.lemmas.Result.{err_from_is_err_and}
use Rattle.toml.specs.View.{view}
use Rattle.plan_syntax.proofs.PlanListReading.{reads_more, reads_stop, reads_end}
use Rattle.plan_syntax.proofs.plan_keys.each.Goals as goal

pub loop-value-preserved : goal.loop-value-preserved
loop-value-preserved g c =
    rw c.in_ok-push.ensures.items
    (reads_more _ _ 0 c.args.values.now c.loop-value.value-index c.loop-value.members.items c.value-item.result c.in_ok-member.member
    c.loop-value.invariant (omega arith) c.value-item.is c.in_ok-member.ensures)

pub returns : goal.returns
returns g c = reads_end _ _ 0 c.args.values.now c.loop-value.value-index c.loop-value.members.items c.loop-value.invariant (omega arith)

pub returns-in_err-member : goal.returns-in_err-member
returns-in_err-member g c =
    let p = err_from_is_err_and c.from_residual.result c.from_residual.ensures.1 in
    rw (p.1, p.2) (λ fault same.
    reads_stop (λ n. g.X.PlanValue.kind c.args.place c.args.key) view 0 c.args.values.now c.loop-value.value-index
    c.loop-value.members.items c.value-item.result fault c.loop-value.invariant (omega arith) c.value-item.is
    (c.in_err-member.ensures fault same))
