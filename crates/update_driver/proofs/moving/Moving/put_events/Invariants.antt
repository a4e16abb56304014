use Rattle.std.proofs.Common.{length}
use Rattle.command_output.specs.GatheredTerms.{pooled}
use Rattle.update_driver.specs.Moving.{sides_by}
use Rattle.update_driver.proofs.EventSteps.{Along}
use Rattle.update_driver.proofs.moving.Moving.put_events.Given as goal

abbrev pub invariant-events : goal.invariant-events
invariant-events g l = Along (sides_by (g.W.Enters.entry l.sides.old) (g.W.Enters.entry l.sides.new)) l.events l.rest l.fn.self l.self
    (pooled l.fn.pool (g.O.Sink.seen l.fn.out) (g.E.Sink.seen l.fn.err)) (pooled l.pool (g.O.Sink.seen l.out) (g.E.Sink.seen l.err))

abbrev pub decreases-events : goal.decreases-events
decreases-events g l = length l.rest
