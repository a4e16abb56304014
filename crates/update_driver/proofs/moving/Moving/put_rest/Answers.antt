use Rattle.std.proofs.Common.{◌≡◌, ◌+◌, ◌<◌, length, arith}
use Rattle.std.specs.Prelude.{replicate}
use Rattle.std.proofs.lemmas.Result.{err_from_is_err_and}
use Rattle.walk_rules.specs.declared.limits.TheConstants.{MAX_STAGES}
use Rattle.command_output.specs.GatheredTerms.{pooled}
use Rattle.update_driver.specs.Events.{to_their_ends}
use Rattle.update_driver.specs.Moving.{Sides, sides_by}
use Rattle.update_driver.proofs.EventSteps.{along_starts}
use Rattle.update_driver.proofs.EventEnds.{ends_from}
use Rattle.update_driver.proofs.EventsInTurn.{ends_next, step_cut, step_on}
use Rattle.update_driver.proofs.moving.Moving.put_rest.Goals as goal

pub packets-init : goal.packets-init
packets-init g c =
    let sides : Sides = sides_by (g.W.Enters.entry c.args.sides.now.old) (g.W.Enters.entry c.args.sides.now.new) in
    along_starts sides (to_their_ends c.args.self.now.seats.items) c.args.self.now
    (pooled c.args.pool.now (g.O.Sink.seen c.args.out.now) (g.E.Sink.seen c.args.err.now)) c.requires.going

pub put_to_end-requires-clause-going : goal.put_to_end-requires-clause-going
put_to_end-requires-clause-going g c = c.packets.invariant.on.going

pub packets-preserved : goal.packets-preserved
packets-preserved g c =
    let sides : Sides = sides_by (g.W.Enters.entry c.args.sides.now.old) (g.W.Enters.entry c.args.sides.now.new) in
    let len = c.len-count.ensures in
    let ok = c.args.self.now.seats.ok in
    let n : c.len-count.result ≡ length c.args.self.now.seats.items = cc in
    let short = c.requires.going.0.short in
    let test = c.packets-test.true in
    let within : c.packets.number < length c.args.self.now.seats.items = omega (arith, n, short, test) in
    step_on sides (to_their_ends c.args.self.now.seats.items)
    (ends_from c.packets.number c.args.self.now.seats.items) c.args.self.now c.packets.self
    (pooled c.args.pool.now (g.O.Sink.seen c.args.out.now) (g.E.Sink.seen c.args.err.now))
    (pooled c.packets.pool (g.O.Sink.seen c.packets.out) (g.E.Sink.seen c.packets.err)) c.packets.invariant
    (replicate MAX_STAGES (c.packets.number + 1)) (ends_from (c.packets.number + 1) c.args.self.now.seats.items)
    (ends_next c.packets.number c.args.self.now.seats.items within)
    c.put_to_end.new.self _ c.in_ok-put_to_end.ensures.after c.in_ok-put_to_end.ensures.wrote

pub returns-in_err-put_to_end-clause-wrote : goal.returns-in_err-put_to_end-clause-wrote
returns-in_err-put_to_end-clause-wrote g c =
    let sides : Sides = sides_by (g.W.Enters.entry c.args.sides.now.old) (g.W.Enters.entry c.args.sides.now.new) in
    let p = err_from_is_err_and c.from_residual.result c.from_residual.ensures.1 in
    let len = c.len-count.ensures in
    let ok = c.args.self.now.seats.ok in
    let n : c.len-count.result ≡ length c.args.self.now.seats.items = cc in
    let short = c.requires.going.0.short in
    let test = c.packets-test.true in
    let within : c.packets.number < length c.args.self.now.seats.items = omega (arith, n, short, test) in
    rw (p.1, p.2) (step_cut sides (to_their_ends c.args.self.now.seats.items)
    (ends_from c.packets.number c.args.self.now.seats.items) c.args.self.now c.packets.self
    (pooled c.args.pool.now (g.O.Sink.seen c.args.out.now) (g.E.Sink.seen c.args.err.now))
    (pooled c.packets.pool (g.O.Sink.seen c.packets.out) (g.E.Sink.seen c.packets.err)) c.packets.invariant
    (replicate MAX_STAGES (c.packets.number + 1)) (ends_from (c.packets.number + 1) c.args.self.now.seats.items)
    (ends_next c.packets.number c.args.self.now.seats.items within)
    c.in_err-put_to_end.field-0.0 _ c.in_err-put_to_end.ensures.wrote)
