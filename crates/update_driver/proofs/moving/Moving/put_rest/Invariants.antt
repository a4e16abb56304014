use Rattle.std.proofs.Common.{◌-◌}
use Rattle.command_output.specs.GatheredTerms.{pooled}
use Rattle.update_driver.specs.Events.{to_their_ends}
use Rattle.update_driver.specs.Moving.{sides_by}
use Rattle.update_driver.proofs.EventEnds.{ends_from}
use Rattle.update_driver.proofs.EventSteps.{Along}
use Rattle.update_driver.proofs.moving.Moving.put_rest.Given as goal

abbrev pub invariant-packets : goal.invariant-packets
invariant-packets g l = Along (sides_by (g.W.Enters.entry l.sides.old) (g.W.Enters.entry l.sides.new)) (to_their_ends l.fn.self.seats.items)
    (ends_from l.number l.fn.self.seats.items) l.fn.self l.self
    (pooled l.fn.pool (g.O.Sink.seen l.fn.out) (g.E.Sink.seen l.fn.err)) (pooled l.pool (g.O.Sink.seen l.out) (g.E.Sink.seen l.err))

abbrev pub decreases-packets : goal.decreases-packets
decreases-packets g l = l.count - l.number
