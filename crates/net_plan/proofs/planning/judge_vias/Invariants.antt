use Rattle.std.proofs.Common.{◌≡◌, ◌+◌, drop}
use Rattle.net_plan.specs.PlannedNetwork.{judge_vias}
use Rattle.net_plan.proofs.planning.judge_vias.Given as goal

abbrev pub invariant-loop-n : goal.invariant-loop-n
invariant-loop-n l = judge_vias (l.n + 1) (drop l.n l.routes) ≡ judge_vias 1 l.routes
