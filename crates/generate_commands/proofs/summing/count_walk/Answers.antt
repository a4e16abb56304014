use Rattle.std.proofs.Common.{◌≡◌, ℕ, List, suc, ◌+◌, ◌-◌, Some, IfSome, sym, ◌∙◌, arith, subst, Option}
use Rattle.walk_rules.specs.declared.place.Place.{Place}
use Rattle.walk_rules.specs.Relation.{IsPlace}
use Rattle.walk_rules.specs.Treatment.{Gave, step_of}
use Rattle.walk_rules.specs.Walk.{Stage, walk_of, choice_at, decisions}
use Rattle.walk_rules.specs.declared.limits.TheConstants.{MAX_STAGES}
use Rattle.generate_commands.proofs.WalksCounted.{Counted, counted_on, counted_end, counted_over, frames_of_one, left_of_one}
use Rattle.run_commands.proofs.PublicLaws.{walk_is_over}
use Rattle.generate_commands.proofs.summing.count_walk.Goals as goal

pub loop-used-preserved : goal.loop-used-preserved
loop-used-preserved c =
    let step : Gave = step_of c.args.net.now c.loop-used.place c.loop-used.content (choice_at c.args.choices.now c.loop-used.taken) in
    let gave : Gave = record { outcome = c.in_ok-outcome.outcome; after = c.take_stage.new.content; error = step.error } in
    let left : MAX_STAGES - c.loop-used.used ≡ suc (MAX_STAGES - (c.loop-used.used + 1)) = omega arith in
    let on = counted_on c.args.net.now (MAX_STAGES - c.loop-used.used) (MAX_STAGES - (c.loop-used.used + 1))
    c.loop-used.place c.loop-used.content (choice_at c.args.choices.now) c.loop-used.taken gave _
    c.loop-used.sent left c.in_ok-outcome.ensures.function c.loop-used.invariant.counted c.in-Some.next (sym c.in-Some.ensures) in
    let whole = walk_of MAX_STAGES c.args.net.now (Some c.args.comes.place) c.args.comes.content (choice_at c.args.choices.now) 0 in
    let behind : ℕ → List Stage = λ n. walk_of (MAX_STAGES - (c.loop-used.used + 1)) c.args.net.now (Some c.in-Some.next)
    c.take_stage.new.content (choice_at c.args.choices.now) (c.loop-used.taken + n) in
    record {
      place = subst (λ (o : Option Place). IfSome o (IsPlace c.args.net.now)) (sym c.in-Some.ensures) c.in_ok-outcome.ensures.next;
      taken = omega (arith, c.decisions_of-taken.ensures.few, c.loop-used.invariant.taken);
      sent = omega (arith, c.frames_of-sent.ensures.few, c.loop-used.invariant.sent);
      counted = subst (λ (n : ℕ). Counted c.args.net.now (behind n) whole (c.loop-used.sent + c.frames_of-sent.result))
          (sym c.decisions_of-taken.ensures.taken)
          (subst (λ (n : ℕ). Counted c.args.net.now (behind (decisions c.in_ok-outcome.outcome)) whole (c.loop-used.sent + n))
          (sym c.frames_of-sent.ensures.sent) on);
    }

pub returns-in-None-clause-frames : goal.returns-in-None-clause-frames
returns-in-None-clause-frames c =
    let whole = walk_of MAX_STAGES c.args.net.now (Some c.args.comes.place) c.args.comes.content (choice_at c.args.choices.now) 0 in
    let step : Gave = step_of c.args.net.now c.loop-used.place c.loop-used.content (choice_at c.args.choices.now c.loop-used.taken) in
    let gave : Gave = record { outcome = c.in_ok-outcome.outcome; after = c.take_stage.new.content; error = step.error } in
    let left : MAX_STAGES - c.loop-used.used ≡ suc (MAX_STAGES - (c.loop-used.used + 1)) = omega arith in
    let last = counted_end c.args.net.now (MAX_STAGES - c.loop-used.used) (MAX_STAGES - (c.loop-used.used + 1))
    c.loop-used.place c.loop-used.content (choice_at c.args.choices.now) c.loop-used.taken gave _
    c.loop-used.sent left c.in_ok-outcome.ensures.function c.loop-used.invariant.counted (sym c.in-None.ensures) in
    let sent = last.0 in
    let frames = c.frames_of-sent.ensures.sent in
    let counts = c.counts_by.ensures.frames in
    frames_of_one whole c.counts_by.result.frames (omega (arith, sent, frames, counts))

pub returns-in-None-clause-left : goal.returns-in-None-clause-left
returns-in-None-clause-left c =
    let whole = walk_of MAX_STAGES c.args.net.now (Some c.args.comes.place) c.args.comes.content (choice_at c.args.choices.now) 0 in
    let step : Gave = step_of c.args.net.now c.loop-used.place c.loop-used.content (choice_at c.args.choices.now c.loop-used.taken) in
    let gave : Gave = record { outcome = c.in_ok-outcome.outcome; after = c.take_stage.new.content; error = step.error } in
    let left : MAX_STAGES - c.loop-used.used ≡ suc (MAX_STAGES - (c.loop-used.used + 1)) = omega arith in
    let last = counted_end c.args.net.now (MAX_STAGES - c.loop-used.used) (MAX_STAGES - (c.loop-used.used + 1))
    c.loop-used.place c.loop-used.content (choice_at c.args.choices.now) c.loop-used.taken gave _
    c.loop-used.sent left c.in_ok-outcome.ensures.function c.loop-used.invariant.counted (sym c.in-None.ensures) in
    left_of_one c.args.net.now whole c.ended_by.result c.counts_by.result.left c.counts_by.ensures.left (c.ended_by.ensures ∙ last.1)

pub returns-clause-frames : goal.returns-clause-frames
returns-clause-frames c =
    let whole = walk_of MAX_STAGES c.args.net.now (Some c.args.comes.place) c.args.comes.content (choice_at c.args.choices.now) 0 in
    let left : MAX_STAGES - c.loop-used.used ≡ 0 = omega arith in
    let over = counted_over c.args.net.now _ whole _ (walk_is_over c.args.net.now (MAX_STAGES - c.loop-used.used) _ _ _ _ left)
    c.loop-used.invariant.counted in
    frames_of_one whole _ (c.counts_by-2.ensures.frames ∙ over.0)

pub returns-clause-left : goal.returns-clause-left
returns-clause-left c =
    let whole = walk_of MAX_STAGES c.args.net.now (Some c.args.comes.place) c.args.comes.content (choice_at c.args.choices.now) 0 in
    let left : MAX_STAGES - c.loop-used.used ≡ 0 = omega arith in
    let over = counted_over c.args.net.now _ whole _ (walk_is_over c.args.net.now (MAX_STAGES - c.loop-used.used) _ _ _ _ left)
    c.loop-used.invariant.counted in
    left_of_one c.args.net.now whole _ c.counts_by-2.result.left c.counts_by-2.ensures.left over.1
