use Rattle.std.proofs.Common.{◌≡◌, ℕ, suc, ◌-◌, [], ◌∷◌, sym, ◌∙◌, subst, arith}
use Rattle.std.specs.Prelude.{replicate}
use Rattle.std.proofs.lemmas.Result.{err_from_is_err_and}
use Rattle.walk_rules.specs.declared.limits.TheConstants.{MAX_STAGES}
use Rattle.command_output.specs.GatheredTerms.{pooled}
use Rattle.update_driver.specs.Moving.{Sides, sides_by, doing, nothing}
use Rattle.update_driver.proofs.EventSteps.{along_done, along_starts, along_went}
use Rattle.update_driver.proofs.EventsInTurn.{along_idle, no_left, rep_none, rep_step, step_cut, step_on}
use Rattle.update_driver.specs.Going.{moving_of}
use Rattle.update_driver.proofs.EventEnds.{idle}
use Rattle.update_driver.proofs.moving.Moving.put_to_end.Goals as goal

pub stages-init : goal.stages-init
stages-init g c =
    let sides : Sides = sides_by (g.W.Enters.entry c.args.sides.now.old) (g.W.Enters.entry c.args.sides.now.new) in
    along_starts sides (replicate MAX_STAGES c.args.number) c.args.self.now
    (pooled c.args.pool.now (g.O.Sink.seen c.args.out.now) (g.E.Sink.seen c.args.err.now)) c.requires.going

pub put_packet-requires-clause-going : goal.put_packet-requires-clause-going
put_packet-requires-clause-going g c = c.stages.invariant.on.going

pub is_over-requires-clause-numbered : goal.is_over-requires-clause-numbered
is_over-requires-clause-numbered g c = λ packet there. c.stages.invariant.on.going.0.numbered (c.args.number - 1) packet there

pub stages-preserved : goal.stages-preserved
stages-preserved g c =
    let sides : Sides = sides_by (g.W.Enters.entry c.args.sides.now.old) (g.W.Enters.entry c.args.sides.now.new) in
    step_on sides (replicate MAX_STAGES c.args.number) (replicate c.stages.left c.args.number) c.args.self.now c.stages.self
    (pooled c.args.pool.now (g.O.Sink.seen c.args.out.now) (g.E.Sink.seen c.args.err.now))
    (pooled c.stages.pool (g.O.Sink.seen c.stages.out) (g.E.Sink.seen c.stages.err)) c.stages.invariant (c.args.number ∷ [])
    (replicate (c.stages.left - 1) c.args.number)
    (rep_step c.stages.left c.args.number c.stages-test.true)
    c.put_packet.new.self _ c.in_ok-put_packet.ensures.after c.in_ok-put_packet.ensures.wrote

pub returns-in_err-put_packet-clause-wrote : goal.returns-in_err-put_packet-clause-wrote
returns-in_err-put_packet-clause-wrote g c =
    let sides : Sides = sides_by (g.W.Enters.entry c.args.sides.now.old) (g.W.Enters.entry c.args.sides.now.new) in
    let p = err_from_is_err_and c.from_residual.result c.from_residual.ensures.1 in
    rw (p.1, p.2) (step_cut sides (replicate MAX_STAGES c.args.number) (replicate c.stages.left c.args.number) c.args.self.now c.stages.self
    (pooled c.args.pool.now (g.O.Sink.seen c.args.out.now) (g.E.Sink.seen c.args.err.now))
    (pooled c.stages.pool (g.O.Sink.seen c.stages.out) (g.E.Sink.seen c.stages.err)) c.stages.invariant (c.args.number ∷ [])
    (replicate (c.stages.left - 1) c.args.number)
    (rep_step c.stages.left c.args.number c.stages-test.true)
    c.in_err-put_packet.field-0.0 _ c.in_err-put_packet.ensures.wrote)

pub returns-then-is_over-clause-after : goal.returns-then-is_over-clause-after
returns-then-is_over-clause-after g c =
    let sides : Sides = sides_by (g.W.Enters.entry c.args.sides.now.old) (g.W.Enters.entry c.args.sides.now.new) in
    let first = c.requires.number in
    let n : c.args.number ≡ suc (c.args.number - 1) = omega (arith, first) in
    let over : doing sides c.args.number (moving_of c.stages.self) ≡ nothing (moving_of c.stages.self) =
    subst (λ (k : ℕ). doing sides k (moving_of c.stages.self) ≡ nothing (moving_of c.stages.self)) (sym n)
    (idle sides (c.args.number - 1) (moving_of c.stages.self) (sym c.is_over.ensures ∙ c.if-is_over.true)) in
    along_done sides (replicate MAX_STAGES c.args.number) c.args.self.now c.stages.self
    (pooled c.args.pool.now (g.O.Sink.seen c.args.out.now) (g.E.Sink.seen c.args.err.now))
    (pooled c.stages.pool (g.O.Sink.seen c.stages.out) (g.E.Sink.seen c.stages.err))
    (along_idle sides (replicate MAX_STAGES c.args.number) c.stages.left c.args.number c.args.self.now c.stages.self
    (pooled c.args.pool.now (g.O.Sink.seen c.args.out.now) (g.E.Sink.seen c.args.err.now))
    (pooled c.stages.pool (g.O.Sink.seen c.stages.out) (g.E.Sink.seen c.stages.err)) c.stages.invariant over)

pub returns-then-is_over-clause-wrote : goal.returns-then-is_over-clause-wrote
returns-then-is_over-clause-wrote g c =
    let sides : Sides = sides_by (g.W.Enters.entry c.args.sides.now.old) (g.W.Enters.entry c.args.sides.now.new) in
    let first = c.requires.number in
    let n : c.args.number ≡ suc (c.args.number - 1) = omega (arith, first) in
    let over : doing sides c.args.number (moving_of c.stages.self) ≡ nothing (moving_of c.stages.self) =
    subst (λ (k : ℕ). doing sides k (moving_of c.stages.self) ≡ nothing (moving_of c.stages.self)) (sym n)
    (idle sides (c.args.number - 1) (moving_of c.stages.self) (sym c.is_over.ensures ∙ c.if-is_over.true)) in
    along_went sides (replicate MAX_STAGES c.args.number) c.args.self.now c.stages.self
    (pooled c.args.pool.now (g.O.Sink.seen c.args.out.now) (g.E.Sink.seen c.args.err.now))
    (pooled c.stages.pool (g.O.Sink.seen c.stages.out) (g.E.Sink.seen c.stages.err))
    (along_idle sides (replicate MAX_STAGES c.args.number) c.stages.left c.args.number c.args.self.now c.stages.self
    (pooled c.args.pool.now (g.O.Sink.seen c.args.out.now) (g.E.Sink.seen c.args.err.now))
    (pooled c.stages.pool (g.O.Sink.seen c.stages.out) (g.E.Sink.seen c.stages.err)) c.stages.invariant over)

pub returns-clause-after : goal.returns-clause-after
returns-clause-after g c =
    let sides : Sides = sides_by (g.W.Enters.entry c.args.sides.now.old) (g.W.Enters.entry c.args.sides.now.new) in
    let none = c.stages-test.false in
    along_done sides (replicate MAX_STAGES c.args.number) c.args.self.now c.stages.self
    (pooled c.args.pool.now (g.O.Sink.seen c.args.out.now) (g.E.Sink.seen c.args.err.now))
    (pooled c.stages.pool (g.O.Sink.seen c.stages.out) (g.E.Sink.seen c.stages.err))
    (no_left sides (replicate MAX_STAGES c.args.number) (replicate c.stages.left c.args.number) c.args.self.now c.stages.self
    (pooled c.args.pool.now (g.O.Sink.seen c.args.out.now) (g.E.Sink.seen c.args.err.now))
    (pooled c.stages.pool (g.O.Sink.seen c.stages.out) (g.E.Sink.seen c.stages.err)) c.stages.invariant
    (rep_none c.stages.left c.args.number (omega (arith, none))))

pub returns-clause-wrote : goal.returns-clause-wrote
returns-clause-wrote g c =
    let sides : Sides = sides_by (g.W.Enters.entry c.args.sides.now.old) (g.W.Enters.entry c.args.sides.now.new) in
    let none = c.stages-test.false in
    along_went sides (replicate MAX_STAGES c.args.number) c.args.self.now c.stages.self
    (pooled c.args.pool.now (g.O.Sink.seen c.args.out.now) (g.E.Sink.seen c.args.err.now))
    (pooled c.stages.pool (g.O.Sink.seen c.stages.out) (g.E.Sink.seen c.stages.err))
    (no_left sides (replicate MAX_STAGES c.args.number) (replicate c.stages.left c.args.number) c.args.self.now c.stages.self
    (pooled c.args.pool.now (g.O.Sink.seen c.args.out.now) (g.E.Sink.seen c.args.err.now))
    (pooled c.stages.pool (g.O.Sink.seen c.stages.out) (g.E.Sink.seen c.stages.err)) c.stages.invariant
    (rep_none c.stages.left c.args.number (omega (arith, none))))
