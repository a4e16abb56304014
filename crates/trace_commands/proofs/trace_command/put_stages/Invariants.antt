use Rattle.std.proofs.Common.{◌-◌, ◌≤◌, Some}
use Rattle.walk_rules.specs.Relation.{IsPlace}
use Rattle.walk_rules.specs.Walk.{walk_of, choice_at}
use Rattle.walk_rules.specs.declared.limits.TheConstants.{MAX_STAGES}
use Rattle.command_output.specs.GatheredTerms.{pooled}
use Rattle.trace_replay.specs.TraceLaws.{walk_lines}
use Rattle.trace_replay.specs.Written.{fed}
use Rattle.trace_commands.proofs.TraceSteps.{Written}
use Rattle.trace_commands.proofs.trace_command.put_stages.Given as goal

abbrev pub invariant-loop-used : goal.invariant-loop-used
invariant-loop-used g l = record {
  place : IsPlace l.teller.net.now l.place;
  taken : l.taken ≤ l.used;
  written : Written l.teller.net.now (Some l.place)
      (walk_of (MAX_STAGES - l.used) l.teller.net.now (Some l.place) l.content (choice_at l.teller.choices.now) l.taken)
      (fed (walk_lines l.teller.net.now (Some l.fn.start)
      (walk_of MAX_STAGES l.teller.net.now (Some l.fn.start) l.fn.content (choice_at l.teller.choices.now) 0)))
      (pooled l.fn.pool (g.O.Sink.seen l.fn.out) (g.E.Sink.seen l.fn.err)) (pooled l.pool (g.O.Sink.seen l.out) (g.E.Sink.seen l.err));
}
