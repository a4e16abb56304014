use Rattle.std.proofs.lemmas.Result.{err_from_is_err_and}
use Rattle.update_commands.proofs.WholeSteps.{new_none, old_none, plan_halts}
use Rattle.update_commands.proofs.update_opening.start_of_update.Goals as goal

pub returns-in_err-plan : goal.returns-in_err-plan
returns-in_err-plan c =
    let p = err_from_is_err_and c.from_residual.result c.from_residual.ensures.1 in
    rw (p.1, p.2) (plan_halts c.args.old.now c.args.new.now c.args.both.now c.in_err-plan.field-0.0 c.in_err-plan.ensures)

pub returns-in-NoList : goal.returns-in-NoList
returns-in-NoList c =
    old_none c.args.old.now c.args.new.now c.args.both.now c.in_ok-plan.plan c.in_ok-plan.ensures c.in-NoList.line
    (rw c.in-NoList.is at c.in_ok-headend.ensures)

pub returns-in-NoList-2 : goal.returns-in-NoList-2
returns-in-NoList-2 c =
    new_none c.args.old.now c.args.new.now c.args.both.now c.in_ok-plan.plan c.in_ok-plan.ensures
    c.in-List.headend (rw c.in-List.is at c.in_ok-headend.ensures) c.in-NoList-2.line (rw c.in-NoList-2.is at c.in_ok-headend-2.ensures)
