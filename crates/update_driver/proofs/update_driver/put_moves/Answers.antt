use Rattle.std.proofs.Common.{◌≡◌, ◌++◌, ℕ, List, subst}
use Rattle.std.specs.Prelude.{replicate}
use Rattle.std.proofs.lemmas.Result.{err_from_is_err_and}
use Rattle.command_output.specs.CommandAnswers.{ending_of_failure, ending_of_step}
use Rattle.command_output.specs.GatheredTerms.{Goes, pooled}
use Rattle.update_driver.specs.Events.{to_their_ends}
use Rattle.update_driver.specs.Going.{written}
use Rattle.update_driver.specs.Moving.{Sides, sides_by}
use Rattle.update_driver.proofs.Driving.{moves_cut, moves_then}
use Rattle.update_driver.proofs.EventEnds.{ends_same}
use Rattle.update_driver.proofs.update_driver.put_moves.Goals as goal

pub returns-in_err-put_events : goal.returns-in_err-put_events
returns-in_err-put_events g c =
    let sides : Sides = sides_by (g.W.Enters.entry c.args.change.now.sides.now.old) (g.W.Enters.entry c.args.change.now.sides.now.new) in
    let p = err_from_is_err_and c.from_residual.result c.from_residual.ensures.1 in
    rw (p.1, p.2) (moves_cut sides c.args.moving.now c.args.change.now.events.now
    (to_their_ends c.args.moving.now.seats.items ++ replicate c.args.count 0) c.in_err-put_events.field-0.0
    (pooled c.args.pool.now (g.O.Sink.seen c.args.out.now) (g.E.Sink.seen c.args.err.now))
    (pooled c.put_events.new.pool (g.O.Sink.seen c.put_events.new.out) (g.E.Sink.seen c.put_events.new.err))
    c.in_err-put_events.ensures.wrote)

pub returns-in_err-put_rest : goal.returns-in_err-put_rest
returns-in_err-put_rest g c =
    let sides : Sides = sides_by (g.W.Enters.entry c.args.change.now.sides.now.old) (g.W.Enters.entry c.args.change.now.sides.now.new) in
    let p = err_from_is_err_and c.from_residual-in_err-put_rest.result c.from_residual-in_err-put_rest.ensures.1 in
    let same : to_their_ends c.put_events.new.self.seats.items ≡ to_their_ends c.args.moving.now.seats.items =
    ends_same c.put_events.new.self.seats.items c.args.moving.now.seats.items c.in_ok-put_events.ensures.after.stands.seats in
    rw (p.1, p.2) (moves_then sides c.args.moving.now c.put_events.new.self c.args.change.now.events.now
    (to_their_ends c.args.moving.now.seats.items ++ replicate c.args.count 0)
    (pooled c.args.pool.now (g.O.Sink.seen c.args.out.now) (g.E.Sink.seen c.args.err.now))
    (pooled c.put_events.new.pool (g.O.Sink.seen c.put_events.new.out) (g.E.Sink.seen c.put_events.new.err))
    (ending_of_failure c.in_err-put_rest.field-0.0) _ c.in_ok-put_events.ensures.after
    c.in_ok-put_events.ensures.wrote
    (subst (λ (ends : List ℕ). Goes (ending_of_failure c.in_err-put_rest.field-0.0)
    (written sides c.put_events.new.self (ends ++ replicate c.args.count 0))
    (pooled c.put_events.new.pool (g.O.Sink.seen c.put_events.new.out) (g.E.Sink.seen c.put_events.new.err))
    (pooled c.put_rest.new.pool (g.O.Sink.seen c.put_rest.new.out) (g.E.Sink.seen c.put_rest.new.err))) same
    (moves_cut sides c.put_events.new.self (to_their_ends c.put_events.new.self.seats.items) (replicate c.args.count 0)
    c.in_err-put_rest.field-0.0 (pooled c.put_events.new.pool (g.O.Sink.seen c.put_events.new.out) (g.E.Sink.seen c.put_events.new.err))
    (pooled c.put_rest.new.pool (g.O.Sink.seen c.put_rest.new.out) (g.E.Sink.seen c.put_rest.new.err)) c.in_err-put_rest.ensures.wrote)))

pub returns : goal.returns
returns g c =
    let sides : Sides = sides_by (g.W.Enters.entry c.args.change.now.sides.now.old) (g.W.Enters.entry c.args.change.now.sides.now.new) in
    let same : to_their_ends c.put_events.new.self.seats.items ≡ to_their_ends c.args.moving.now.seats.items =
    ends_same c.put_events.new.self.seats.items c.args.moving.now.seats.items c.in_ok-put_events.ensures.after.stands.seats in
    moves_then sides c.args.moving.now c.put_events.new.self c.args.change.now.events.now
    (to_their_ends c.args.moving.now.seats.items ++ replicate c.args.count 0)
    (pooled c.args.pool.now (g.O.Sink.seen c.args.out.now) (g.E.Sink.seen c.args.err.now))
    (pooled c.put_events.new.pool (g.O.Sink.seen c.put_events.new.out) (g.E.Sink.seen c.put_events.new.err))
    (ending_of_step c.put_edits.result) _ c.in_ok-put_events.ensures.after c.in_ok-put_events.ensures.wrote
    (subst (λ (ends : List ℕ). Goes (ending_of_step c.put_edits.result)
    (written sides c.put_events.new.self (ends ++ replicate c.args.count 0))
    (pooled c.put_events.new.pool (g.O.Sink.seen c.put_events.new.out) (g.E.Sink.seen c.put_events.new.err))
    (pooled c.put_edits.new.pool (g.O.Sink.seen c.put_edits.new.out) (g.E.Sink.seen c.put_edits.new.err))) same
    (moves_then sides c.put_events.new.self c.put_rest.new.self (to_their_ends c.put_events.new.self.seats.items) (replicate c.args.count 0)
    (pooled c.put_events.new.pool (g.O.Sink.seen c.put_events.new.out) (g.E.Sink.seen c.put_events.new.err))
    (pooled c.put_rest.new.pool (g.O.Sink.seen c.put_rest.new.out) (g.E.Sink.seen c.put_rest.new.err)) (ending_of_step c.put_edits.result)
    (pooled c.put_edits.new.pool (g.O.Sink.seen c.put_edits.new.out) (g.E.Sink.seen c.put_edits.new.err))
    c.in_ok-put_rest.ensures.after c.in_ok-put_rest.ensures.wrote c.put_edits.ensures.wrote))
