use Rattle.std.specs.Prelude.{replicate}
use Rattle.command_output.specs.GatheredTerms.{pooled}
use Rattle.update_driver.specs.Moving.{sides_by}
use Rattle.update_driver.proofs.EventSteps.{Along}
use Rattle.update_driver.proofs.moving.Moving.put_edits.Given as goal

abbrev pub invariant-edits : goal.invariant-edits
invariant-edits g l = Along (sides_by (g.W.Enters.entry l.sides.old) (g.W.Enters.entry l.sides.new)) (replicate l.count 0)
    (replicate l.left 0) l.fn.self l.self
    (pooled l.fn.pool (g.O.Sink.seen l.fn.out) (g.E.Sink.seen l.fn.err)) (pooled l.pool (g.O.Sink.seen l.out) (g.E.Sink.seen l.err))

abbrev pub decreases-edits : goal.decreases-edits
decreases-edits g l = l.left
