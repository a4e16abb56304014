use Rattle.std.proofs.Common.{◌-◌, [], ◌∷◌}
use Rattle.std.specs.Prelude.{replicate}
use Rattle.std.proofs.lemmas.Result.{err_from_is_err_and}
use Rattle.command_output.specs.GatheredTerms.{pooled}
use Rattle.update_driver.specs.Moving.{Sides, sides_by}
use Rattle.update_driver.proofs.EventSteps.{along_starts}
use Rattle.update_driver.proofs.EventsInTurn.{rep_step, step_cut, step_on}
use Rattle.update_driver.proofs.moving.Moving.put_edits.Goals as goal

pub edits-init : goal.edits-init
edits-init g c =
    let sides : Sides = sides_by (g.W.Enters.entry c.args.sides.now.old) (g.W.Enters.entry c.args.sides.now.new) in
    along_starts sides (replicate c.args.count 0) c.args.self.now
    (pooled c.args.pool.now (g.O.Sink.seen c.args.out.now) (g.E.Sink.seen c.args.err.now)) c.requires.going

pub put_event-requires-clause-going : goal.put_event-requires-clause-going
put_event-requires-clause-going g c = c.edits.invariant.on.going

pub edits-preserved : goal.edits-preserved
edits-preserved g c =
    let sides : Sides = sides_by (g.W.Enters.entry c.args.sides.now.old) (g.W.Enters.entry c.args.sides.now.new) in
    step_on sides (replicate c.args.count 0) (replicate c.edits.left 0) c.args.self.now c.edits.self
    (pooled c.args.pool.now (g.O.Sink.seen c.args.out.now) (g.E.Sink.seen c.args.err.now))
    (pooled c.edits.pool (g.O.Sink.seen c.edits.out) (g.E.Sink.seen c.edits.err)) c.edits.invariant (0 ∷ [])
    (replicate (c.edits.left - 1) 0) (rep_step c.edits.left 0 c.edits-test.true)
    c.put_event.new.self _ c.in_ok-put_event.ensures.after c.in_ok-put_event.ensures.wrote

pub returns-in_err-put_event-clause-wrote : goal.returns-in_err-put_event-clause-wrote
returns-in_err-put_event-clause-wrote g c =
    let sides : Sides = sides_by (g.W.Enters.entry c.args.sides.now.old) (g.W.Enters.entry c.args.sides.now.new) in
    let p = err_from_is_err_and c.from_residual.result c.from_residual.ensures.1 in
    rw (p.1, p.2) (step_cut sides (replicate c.args.count 0) (replicate c.edits.left 0) c.args.self.now c.edits.self
    (pooled c.args.pool.now (g.O.Sink.seen c.args.out.now) (g.E.Sink.seen c.args.err.now))
    (pooled c.edits.pool (g.O.Sink.seen c.edits.out) (g.E.Sink.seen c.edits.err)) c.edits.invariant (0 ∷ [])
    (replicate (c.edits.left - 1) 0) (rep_step c.edits.left 0 c.edits-test.true)
    c.in_err-put_event.field-0.0 _ c.in_err-put_event.ensures.wrote)
