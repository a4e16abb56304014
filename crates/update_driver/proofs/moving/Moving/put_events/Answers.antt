use Rattle.std.proofs.Common.{◌-◌, [], ◌∷◌, length, drop, get_or, take}
use Rattle.std.proofs.lemmas.Result.{err_from_is_err_and}
use Rattle.command_output.specs.GatheredTerms.{pooled}
use Rattle.update_driver.specs.Moving.{Sides, sides_by}
use Rattle.update_driver.proofs.EventSteps.{along_starts}
use Rattle.packet_walk.proofs.Due.{split_first}
use Rattle.update_driver.proofs.EventsInTurn.{step_cut, step_on}
use Rattle.update_driver.proofs.moving.Moving.put_events.Goals as goal

pub events-init : goal.events-init
events-init g c =
    let sides : Sides = sides_by (g.W.Enters.entry c.args.sides.now.old) (g.W.Enters.entry c.args.sides.now.new) in
    along_starts sides c.args.events.now c.args.self.now
    (pooled c.args.pool.now (g.O.Sink.seen c.args.out.now) (g.E.Sink.seen c.args.err.now)) c.requires.going

pub put_event-requires-clause-going : goal.put_event-requires-clause-going
put_event-requires-clause-going g c = c.events.invariant.on.going

pub events-preserved : goal.events-preserved
events-preserved g c =
    let sides : Sides = sides_by (g.W.Enters.entry c.args.sides.now.old) (g.W.Enters.entry c.args.sides.now.new) in
    step_on sides c.args.events.now c.events.rest.now c.args.self.now c.events.self
    (pooled c.args.pool.now (g.O.Sink.seen c.args.out.now) (g.E.Sink.seen c.args.err.now))
    (pooled c.events.pool (g.O.Sink.seen c.events.out) (g.E.Sink.seen c.events.err)) c.events.invariant (get_or c.events.rest.now 0 0 ∷ [])
    (take (length c.events.rest.now - 1) (drop 1 c.events.rest.now))
    (split_first c.events.rest.now c.in-len1-up.len_at_least) c.put_event.new.self _ c.in_ok-put_event.ensures.after
    c.in_ok-put_event.ensures.wrote

pub returns-in_err-put_event-clause-wrote : goal.returns-in_err-put_event-clause-wrote
returns-in_err-put_event-clause-wrote g c =
    let sides : Sides = sides_by (g.W.Enters.entry c.args.sides.now.old) (g.W.Enters.entry c.args.sides.now.new) in
    let p = err_from_is_err_and c.from_residual.result c.from_residual.ensures.1 in
    rw (p.1, p.2) (step_cut sides c.args.events.now c.events.rest.now c.args.self.now c.events.self
    (pooled c.args.pool.now (g.O.Sink.seen c.args.out.now) (g.E.Sink.seen c.args.err.now))
    (pooled c.events.pool (g.O.Sink.seen c.events.out) (g.E.Sink.seen c.events.err)) c.events.invariant (get_or c.events.rest.now 0 0 ∷ [])
    (take (length c.events.rest.now - 1) (drop 1 c.events.rest.now))
    (split_first c.events.rest.now c.in-len1-up.len_at_least) c.in_err-put_event.field-0.0 _ c.in_err-put_event.ensures.wrote)
