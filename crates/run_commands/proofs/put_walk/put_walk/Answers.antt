use Rattle.std.proofs.Common.{◌≡◌, ℕ, suc, ◌+◌, ◌-◌, Some, IfSome, sym, ◌∙◌, arith, subst, Option}
use Rattle.std.proofs.lemmas.Result.{err_from_is_err_and}
use Rattle.walk_rules.specs.declared.place.Place.{Place}
use Rattle.walk_rules.specs.Relation.{IsPlace}
use Rattle.walk_rules.specs.Treatment.{Gave, step_of}
use Rattle.walk_rules.specs.Walk.{walk_of, choice_at}
use Rattle.walk_rules.specs.declared.limits.TheConstants.{MAX_STAGES}
use Rattle.command_output.specs.GatheredTerms.{pooled}
use Rattle.run_commands.proofs.DriverWalking.{Progress, progress_starts, progress_stops, progress_wants, walk_is_over, staged_on, staged_end, staged_cut}
use Rattle.run_commands.proofs.put_walk.put_walk.Goals as goal

pub loop-used-init : goal.loop-used-init
loop-used-init g c = record {
  place = c.requires.place;
  taken = omega arith;
  progress = progress_starts c.args.number c.args.course.now.net.now
      (walk_of MAX_STAGES c.args.course.now.net.now (Some c.args.comes.place) c.args.comes.content
      (choice_at c.args.course.now.choices.now) 0)
      (pooled c.args.pool.now (g.O.Sink.seen c.args.out.now) (g.E.Sink.seen c.args.err.now));
}

pub loop-used-preserved : goal.loop-used-preserved
loop-used-preserved g c =
    let net = c.args.course.now.net.now in
    let old = pooled c.args.pool.now (g.O.Sink.seen c.args.out.now) (g.E.Sink.seen c.args.err.now) in
    let later = pooled c.put_sent.new.pool (g.O.Sink.seen c.put_sent.new.out) (g.E.Sink.seen c.put_sent.new.err) in
    let step : Gave = step_of net c.loop-used.place c.loop-used.content (choice_at c.args.course.now.choices.now c.loop-used.taken) in
    let tells = c.in_ok-outcome.ensures.tells in
    let slot = c.in_ok-outcome.ensures.error in
    let gave : Gave = record { outcome = c.in_ok-outcome.outcome; after = c.take_stage.new.content; error = step.error } in
    let left : MAX_STAGES - c.loop-used.used ≡ suc (MAX_STAGES - (c.loop-used.used + 1)) = omega arith in
    let on = staged_on c.args.number net (MAX_STAGES - c.loop-used.used) (MAX_STAGES - (c.loop-used.used + 1))
    c.loop-used.place c.loop-used.content
    (choice_at c.args.course.now.choices.now) c.loop-used.taken gave _ _ _ later
    left c.in_ok-outcome.ensures.function c.loop-used.invariant.progress
    c.in-Some.next (sym c.in-Some.ensures) (c.in_ok-put_sent.ensures c.take_stage.new.content step.error tells c.bytes-packet.ensures
    (c.as_slice-told.ensures.value ∙ slot)) in
    record {
      place = subst (λ (o : Option Place). IfSome o (IsPlace net)) (sym c.in-Some.ensures) c.in_ok-outcome.ensures.next;
      taken = omega (arith, c.decisions_of-taken.ensures.few, c.loop-used.invariant.taken);
      progress = subst (λ (n : ℕ). Progress c.args.number net
          (walk_of (MAX_STAGES - (c.loop-used.used + 1)) net (Some c.in-Some.next) c.take_stage.new.content
          (choice_at c.args.course.now.choices.now) (c.loop-used.taken + n))
          (walk_of MAX_STAGES net (Some c.args.comes.place) c.args.comes.content (choice_at c.args.course.now.choices.now) 0)
          old later) (sym c.decisions_of-taken.ensures.taken) on;
    }

pub returns-in_err-outcome-clause-wrote : goal.returns-in_err-outcome-clause-wrote
returns-in_err-outcome-clause-wrote g c =
    let p = err_from_is_err_and c.from_residual.result c.from_residual.ensures.1 in
    rw (p.1, p.2) (progress_wants c.args.number c.args.course.now.net.now _ _ _ _ c.loop-used.invariant.progress)

pub returns-in_err-put_sent-clause-wrote : goal.returns-in_err-put_sent-clause-wrote
returns-in_err-put_sent-clause-wrote g c =
    let net = c.args.course.now.net.now in
    let later = pooled c.put_sent.new.pool (g.O.Sink.seen c.put_sent.new.out) (g.E.Sink.seen c.put_sent.new.err) in
    let step : Gave = step_of net c.loop-used.place c.loop-used.content (choice_at c.args.course.now.choices.now c.loop-used.taken) in
    let tells = c.in_ok-outcome.ensures.tells in
    let slot = c.in_ok-outcome.ensures.error in
    let gave : Gave = record { outcome = c.in_ok-outcome.outcome; after = c.take_stage.new.content; error = step.error } in
    let left : MAX_STAGES - c.loop-used.used ≡ suc (MAX_STAGES - (c.loop-used.used + 1)) = omega arith in
    let p = err_from_is_err_and c.from_residual-in_err-put_sent.result c.from_residual-in_err-put_sent.ensures.1 in
    rw (p.1, p.2) (staged_cut c.args.number net
    (MAX_STAGES - c.loop-used.used) (MAX_STAGES - (c.loop-used.used + 1)) c.loop-used.place c.loop-used.content
    (choice_at c.args.course.now.choices.now) c.loop-used.taken gave _ _ _ later
    left c.in_ok-outcome.ensures.function c.loop-used.invariant.progress c.in_err-put_sent.field-0.0
    (c.in_err-put_sent.ensures c.take_stage.new.content step.error tells c.bytes-packet.ensures (c.as_slice-told.ensures.value ∙ slot)))

pub returns-in-None-clause-ended : goal.returns-in-None-clause-ended
returns-in-None-clause-ended g c =
    let net = c.args.course.now.net.now in
    let later = pooled c.put_sent.new.pool (g.O.Sink.seen c.put_sent.new.out) (g.E.Sink.seen c.put_sent.new.err) in
    let step : Gave = step_of net c.loop-used.place c.loop-used.content (choice_at c.args.course.now.choices.now c.loop-used.taken) in
    let tells = c.in_ok-outcome.ensures.tells in
    let slot = c.in_ok-outcome.ensures.error in
    let gave : Gave = record { outcome = c.in_ok-outcome.outcome; after = c.take_stage.new.content; error = step.error } in
    let left : MAX_STAGES - c.loop-used.used ≡ suc (MAX_STAGES - (c.loop-used.used + 1)) = omega arith in
    let last = staged_end c.args.number net (MAX_STAGES - c.loop-used.used) (MAX_STAGES - (c.loop-used.used + 1))
    c.loop-used.place c.loop-used.content
    (choice_at c.args.course.now.choices.now) c.loop-used.taken gave _ _ _ later
    left c.in_ok-outcome.ensures.function c.loop-used.invariant.progress (sym c.in-None.ensures)
    (c.in_ok-put_sent.ensures c.take_stage.new.content step.error tells c.bytes-packet.ensures (c.as_slice-told.ensures.value ∙ slot)) in
    c.ended_by-ended.ensures ∙ last.1

pub returns-in-None-clause-wrote : goal.returns-in-None-clause-wrote
returns-in-None-clause-wrote g c =
    let net = c.args.course.now.net.now in
    let later = pooled c.put_sent.new.pool (g.O.Sink.seen c.put_sent.new.out) (g.E.Sink.seen c.put_sent.new.err) in
    let step : Gave = step_of net c.loop-used.place c.loop-used.content (choice_at c.args.course.now.choices.now c.loop-used.taken) in
    let tells = c.in_ok-outcome.ensures.tells in
    let slot = c.in_ok-outcome.ensures.error in
    let gave : Gave = record { outcome = c.in_ok-outcome.outcome; after = c.take_stage.new.content; error = step.error } in
    let left : MAX_STAGES - c.loop-used.used ≡ suc (MAX_STAGES - (c.loop-used.used + 1)) = omega arith in
    let last = staged_end c.args.number net (MAX_STAGES - c.loop-used.used) (MAX_STAGES - (c.loop-used.used + 1))
    c.loop-used.place c.loop-used.content
    (choice_at c.args.course.now.choices.now) c.loop-used.taken gave _ _ _ later
    left c.in_ok-outcome.ensures.function c.loop-used.invariant.progress (sym c.in-None.ensures)
    (c.in_ok-put_sent.ensures c.take_stage.new.content step.error tells c.bytes-packet.ensures (c.as_slice-told.ensures.value ∙ slot)) in
    last.0

pub returns-clause-ended : goal.returns-clause-ended
returns-clause-ended g c =
    let left : MAX_STAGES - c.loop-used.used ≡ 0 = omega arith in
    (progress_stops c.args.number c.args.course.now.net.now _ _ _ _
    (walk_is_over c.args.course.now.net.now (MAX_STAGES - c.loop-used.used) _ _ _ _ left)
    c.loop-used.invariant.progress).1

pub returns-clause-wrote : goal.returns-clause-wrote
returns-clause-wrote g c =
    let left : MAX_STAGES - c.loop-used.used ≡ 0 = omega arith in
    (progress_stops c.args.number c.args.course.now.net.now _ _ _ _
    (walk_is_over c.args.course.now.net.now (MAX_STAGES - c.loop-used.used) _ _ _ _ left)
    c.loop-used.invariant.progress).0
