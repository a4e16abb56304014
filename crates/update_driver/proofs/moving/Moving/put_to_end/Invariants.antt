use Rattle.std.specs.Prelude.{replicate}
use Rattle.walk_rules.specs.declared.limits.TheConstants.{MAX_STAGES}
use Rattle.command_output.specs.GatheredTerms.{pooled}
use Rattle.update_driver.specs.Moving.{sides_by}
use Rattle.update_driver.proofs.EventSteps.{Along}
use Rattle.update_driver.proofs.moving.Moving.put_to_end.Given as goal

abbrev pub invariant-stages : goal.invariant-stages
invariant-stages g l = Along (sides_by (g.W.Enters.entry l.sides.old) (g.W.Enters.entry l.sides.new)) (replicate MAX_STAGES l.number)
    (replicate l.left l.number) l.fn.self l.self
    (pooled l.fn.pool (g.O.Sink.seen l.fn.out) (g.E.Sink.seen l.fn.err)) (pooled l.pool (g.O.Sink.seen l.out) (g.E.Sink.seen l.err))

abbrev pub decreases-stages : goal.decreases-stages
decreases-stages g l = l.left
