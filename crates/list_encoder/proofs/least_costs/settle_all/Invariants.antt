use Rattle.std.proofs.Common.{◌+◌, ◌-◌}
use Rattle.list_encoder.proofs.Settling.{Tabled}
use Rattle.list_encoder.proofs.least_costs.settle_all.Given as goal

abbrev pub invariant-loop-done : goal.invariant-loop-done
invariant-loop-done g l = Tabled (g.L.Legs.seen l.legs) l.cells (l.steps + 1 - l.done) l.later l.table
