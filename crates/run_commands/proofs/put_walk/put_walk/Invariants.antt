use Rattle.std.proofs.Common.{◌-◌, ◌≤◌, Some}
use Rattle.walk_rules.specs.Relation.{IsPlace}
use Rattle.walk_rules.specs.Walk.{walk_of, choice_at}
use Rattle.walk_rules.specs.declared.limits.TheConstants.{MAX_STAGES}
use Rattle.command_output.specs.GatheredTerms.{pooled}
use Rattle.run_commands.proofs.DriverWalking.{Progress}
use Rattle.run_commands.proofs.put_walk.put_walk.Given as goal

abbrev pub invariant-loop-used : goal.invariant-loop-used
invariant-loop-used g l = record {
  place : IsPlace l.course.net.now l.place;
  taken : l.taken ≤ l.used;
  progress : Progress l.number l.course.net.now
      (walk_of (MAX_STAGES - l.used) l.course.net.now (Some l.place) l.content (choice_at l.course.choices.now) l.taken)
      (walk_of MAX_STAGES l.course.net.now (Some l.fn.comes.place) l.fn.comes.content (choice_at l.course.choices.now) 0)
      (pooled l.fn.pool (g.O.Sink.seen l.fn.out) (g.E.Sink.seen l.fn.err)) (pooled l.pool (g.O.Sink.seen l.out) (g.E.Sink.seen l.err));
}
