use Rattle.net_plan.proofs.PlanRead.{plan_fits}
use Rattle.net_plan.proofs.plan.read_plan.Goals as goal

pub invariant_of-result : goal.invariant_of-result
invariant_of-result c = plan_fits c.args.text.now c.in_ok-said.said c.in_ok-said.ensures
