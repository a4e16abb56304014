use Rattle.std.proofs.Common.{◌≡◌, ℕ, suc, ◌+◌, ◌-◌, Some, IfSome, sym, arith, subst, Option}
use Rattle.std.proofs.lemmas.Result.{err_from_is_err_and}
use Rattle.walk_rules.specs.declared.place.Place.{Place}
use Rattle.walk_rules.specs.Relation.{IsPlace}
use Rattle.walk_rules.specs.Treatment.{Gave, step_of}
use Rattle.walk_rules.specs.Walk.{walk_of, choice_at}
use Rattle.walk_rules.specs.declared.limits.TheConstants.{MAX_STAGES}
use Rattle.command_output.specs.GatheredTerms.{pooled}
use Rattle.trace_replay.specs.TraceLaws.{walk_lines}
use Rattle.command_output.specs.CommandAnswers.{ending_of_step}
use Rattle.trace_replay.specs.Written.{fed}
use Rattle.run_commands.proofs.PublicLaws.{walk_is_over}
use Rattle.trace_commands.proofs.TraceSteps.{Written, none_written, written_stopped, written_wants, line_on, line_end, line_cut}
use Rattle.trace_commands.proofs.trace_command.put_stages.Goals as goal

pub loop-used-init : goal.loop-used-init
loop-used-init g c =
    let net = c.args.teller.now.net.now in
    let choices = c.args.teller.now.choices.now in
    record {
      place = c.requires.place;
      taken = omega arith;
      written = none_written net (Some c.args.start)
          (walk_of MAX_STAGES net (Some c.args.start) c.args.content (choice_at choices) 0)
          (pooled c.args.pool.now (g.O.Sink.seen c.args.out.now) (g.E.Sink.seen c.args.err.now));
    }

pub loop-used-preserved : goal.loop-used-preserved
loop-used-preserved g c =
    let net = c.args.teller.now.net.now in
    let choices = c.args.teller.now.choices.now in
    let later = pooled c.put_out.new.self (g.O.Sink.seen c.put_out.new.out) (g.E.Sink.seen c.put_out.new.err) in
    let step : Gave = step_of net c.loop-used.place c.loop-used.content (choice_at choices c.loop-used.taken) in
    let gave : Gave = record { outcome = c.in_ok-outcome.outcome; after = c.take_stage.new.content; error = step.error } in
    let left : MAX_STAGES - c.loop-used.used ≡ suc (MAX_STAGES - (c.loop-used.used + 1)) = omega arith in
    let on = line_on net (MAX_STAGES - c.loop-used.used) (MAX_STAGES - (c.loop-used.used + 1))
    c.loop-used.place c.loop-used.content
    (choice_at choices) c.loop-used.taken gave _ _ _ later
    left c.in_ok-outcome.ensures.function c.loop-used.invariant.written
    c.in-Some.next (sym c.in-Some.ensures)
    (rw (c.as_slice.ensures.value, c.in_ok-line.ensures, c.in_ok-outcome.ensures.error) at c.in_ok-put_out.ensures.goes) in
    record {
      place = subst (λ (o : Option Place). IfSome o (IsPlace net)) (sym c.in-Some.ensures) c.in_ok-outcome.ensures.next;
      taken = omega (arith, c.decisions_of-taken.ensures.few, c.loop-used.invariant.taken);
      written = subst (λ (n : ℕ). Written net (Some c.in-Some.next)
          (walk_of (MAX_STAGES - (c.loop-used.used + 1)) net (Some c.in-Some.next) c.take_stage.new.content
          (choice_at choices) (c.loop-used.taken + n))
          (fed (walk_lines net (Some c.args.start)
          (walk_of MAX_STAGES net (Some c.args.start) c.args.content (choice_at choices) 0)))
          (pooled c.args.pool.now (g.O.Sink.seen c.args.out.now) (g.E.Sink.seen c.args.err.now)) later)
          (sym c.decisions_of-taken.ensures.taken) on;
    }

pub returns-in_err-outcome : goal.returns-in_err-outcome
returns-in_err-outcome g c =
    let net = c.args.teller.now.net.now in
    let p = err_from_is_err_and c.from_residual.result c.from_residual.ensures.1 in
    rw (p.1, p.2) (written_wants net _ _ _ _ _ c.loop-used.invariant.written)

pub returns-in_err-line : goal.returns-in_err-line
returns-in_err-line g c =
    let net = c.args.teller.now.net.now in
    let p = err_from_is_err_and c.from_residual-in_err-line.result c.from_residual-in_err-line.ensures.1 in
    rw (p.1, p.2) (written_wants net _ _ _ _ _ c.loop-used.invariant.written)

pub returns-in_err-put_out : goal.returns-in_err-put_out
returns-in_err-put_out g c =
    let net = c.args.teller.now.net.now in
    let choices = c.args.teller.now.choices.now in
    let later = pooled c.put_out.new.self (g.O.Sink.seen c.put_out.new.out) (g.E.Sink.seen c.put_out.new.err) in
    let step : Gave = step_of net c.loop-used.place c.loop-used.content (choice_at choices c.loop-used.taken) in
    let gave : Gave = record { outcome = c.in_ok-outcome.outcome; after = c.take_stage.new.content; error = step.error } in
    let left : MAX_STAGES - c.loop-used.used ≡ suc (MAX_STAGES - (c.loop-used.used + 1)) = omega arith in
    let p = err_from_is_err_and c.from_residual-in_err-put_out.result c.from_residual-in_err-put_out.ensures.1 in
    rw (p.1, p.2) (line_cut net
    (MAX_STAGES - c.loop-used.used) (MAX_STAGES - (c.loop-used.used + 1)) c.loop-used.place c.loop-used.content
    (choice_at choices) c.loop-used.taken gave _ _ _ later
    left c.in_ok-outcome.ensures.function c.loop-used.invariant.written c.in_err-put_out.field-0.0
    (rw (c.as_slice.ensures.value, c.in_ok-line.ensures, c.in_ok-outcome.ensures.error) at c.in_err-put_out.ensures.goes))

pub returns-in-None : goal.returns-in-None
returns-in-None g c =
    let net = c.args.teller.now.net.now in
    let choices = c.args.teller.now.choices.now in
    let later = pooled c.put_out.new.self (g.O.Sink.seen c.put_out.new.out) (g.E.Sink.seen c.put_out.new.err) in
    let step : Gave = step_of net c.loop-used.place c.loop-used.content (choice_at choices c.loop-used.taken) in
    let gave : Gave = record { outcome = c.in_ok-outcome.outcome; after = c.take_stage.new.content; error = step.error } in
    let left : MAX_STAGES - c.loop-used.used ≡ suc (MAX_STAGES - (c.loop-used.used + 1)) = omega arith in
    line_end net (MAX_STAGES - c.loop-used.used) (MAX_STAGES - (c.loop-used.used + 1))
    c.loop-used.place c.loop-used.content
    (choice_at choices) c.loop-used.taken gave _ _ _ later
    left c.in_ok-outcome.ensures.function c.loop-used.invariant.written (sym c.in-None.ensures)
    (rw (c.as_slice.ensures.value, c.in_ok-line.ensures, c.in_ok-outcome.ensures.error) at c.in_ok-put_out.ensures.goes)

pub returns : goal.returns
returns g c =
    let net = c.args.teller.now.net.now in
    let later = pooled c.put_stopped.new.pool (g.O.Sink.seen c.put_stopped.new.out) (g.E.Sink.seen c.put_stopped.new.err) in
    let left : MAX_STAGES - c.loop-used.used ≡ 0 = omega arith in
    written_stopped (ending_of_step c.put_stopped.result) net c.loop-used.place _ _ _ _ later
    (walk_is_over net (MAX_STAGES - c.loop-used.used) _ _ _ _ left)
    c.loop-used.invariant.written c.put_stopped.ensures
