use Rattle.list_encoder.specs.Settling.{SettlesSoFar}
use Rattle.list_encoder.proofs.Queueing.{open_count}
use Rattle.list_encoder.proofs.least_costs.settle_waiting.Given as goal

abbrev pub invariant-loop-next : goal.invariant-loop-next
invariant-loop-next g l =
    SettlesSoFar (g.L.Legs.seen l.legs) l.cells l.into l.fn.table l.table l.queue.waiting l.queue.done.items

abbrev pub decreases-loop-next : goal.decreases-loop-next
decreases-loop-next g l = open_count l.queue.done.items
