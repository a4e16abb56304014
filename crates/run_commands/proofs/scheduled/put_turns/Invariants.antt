use Rattle.std.proofs.Common.{length}
use Rattle.packet_walk.specs.Schedule.{scheduled}
use Rattle.packet_walk.specs.ScheduleTerms.{comings_of, due}
use Rattle.command_output.specs.GatheredTerms.{pooled}
use Rattle.run_commands.proofs.DriverTurning.{InTurns}
use Rattle.run_commands.proofs.scheduled.put_turns.Given as goal

abbrev pub invariant-turns : goal.invariant-turns
invariant-turns g l =
    InTurns l.course.net.now l.fn.entered.numbers.items
    (scheduled l.course.schedule.now (comings_of l.fn.entered.numbers.items l.fn.entered.flight)) l.turns l.flight
    (pooled l.fn.pool (g.O.Sink.seen l.fn.out) (g.E.Sink.seen l.fn.err)) (pooled l.pool (g.O.Sink.seen l.out) (g.E.Sink.seen l.err))

-- fewer stages are due after each turn
abbrev pub decreases-turns : goal.decreases-turns
decreases-turns g l = length (due l.turns l.flight)
