use Rattle.std.proofs.lemmas.Result.{err_from_is_err_and}
use Rattle.command_output.specs.CommandAnswers.{ending_of_step}
use Rattle.command_output.specs.GatheredTerms.{pooled}
use Rattle.run_commands.proofs.DriverTurning.{new_given, new_turned, new_within, new_writable, ok_from, turn_cut, turn_ends}
use Rattle.run_commands.proofs.scheduled.put_turn.Goals as goal

pub put_stage-requires-clause-writable : goal.put_stage-requires-clause-writable
put_stage-requires-clause-writable g c =
    new_writable c.args.flight.now c.args.turn.packet c.requires.given c.requires.going c.in-Some.event c.turn.new.self
    (rw c.in-Some.is at c.in_ok-event.ensures) c.keeps_rules.ensures.network c.keeps_rules.ensures.packet

pub returns-in_err-put_stage-clause-wrote : goal.returns-in_err-put_stage-clause-wrote
returns-in_err-put_stage-clause-wrote g c =
    let p = err_from_is_err_and c.from_residual-in_err-put_stage.result c.from_residual-in_err-put_stage.ensures.1 in
    rw (p.1, p.2) (turn_cut c.args.flight.now c.args.turn.packet c.requires.given c.requires.going c.in-Some.event c.turn.new.self
    (rw c.in-Some.is at c.in_ok-event.ensures) c.keeps_rules.ensures.network c.keeps_rules.ensures.packet
    c.args.net.now c.requires.net c.args.turn.number c.in_err-put_stage.field-0.0
    (pooled c.args.pool.now (g.O.Sink.seen c.args.out.now) (g.E.Sink.seen c.args.err.now))
    (pooled c.put_stage.new.pool (g.O.Sink.seen c.put_stage.new.out) (g.E.Sink.seen c.put_stage.new.err)) c.in_err-put_stage.ensures)

pub put_end-requires-clause-given : goal.put_end-requires-clause-given
put_end-requires-clause-given g c =
    new_given c.args.flight.now c.args.turn.packet c.requires.given c.requires.going c.in-Some.event c.turn.new.self
    (rw c.in-Some.is at c.in_ok-event.ensures)

pub put_end-requires-clause-within : goal.put_end-requires-clause-within
put_end-requires-clause-within g c =
    new_within c.args.flight.now c.args.turn.packet c.requires.given c.requires.going c.in-Some.event c.turn.new.self
    (rw c.in-Some.is at c.in_ok-event.ensures) c.keeps_rules.ensures.network c.keeps_rules.ensures.packet
    c.args.net.now c.requires.net

pub returns-clause-turned : goal.returns-clause-turned
returns-clause-turned g c =
    ok_from c.put_end.result _ (new_turned c.args.flight.now c.args.turn.packet c.requires.given c.requires.going c.in-Some.event
    c.turn.new.self (rw c.in-Some.is at c.in_ok-event.ensures))

pub returns-clause-wrote : goal.returns-clause-wrote
returns-clause-wrote g c =
    turn_ends c.args.flight.now c.args.turn.packet c.requires.given c.requires.going c.in-Some.event c.turn.new.self
    (rw c.in-Some.is at c.in_ok-event.ensures) c.keeps_rules.ensures.network c.keeps_rules.ensures.packet
    c.args.net.now c.requires.net c.args.turn.number (ending_of_step c.put_end.result)
    (pooled c.args.pool.now (g.O.Sink.seen c.args.out.now) (g.E.Sink.seen c.args.err.now))
    (pooled c.put_stage.new.pool (g.O.Sink.seen c.put_stage.new.out) (g.E.Sink.seen c.put_stage.new.err))
    (pooled c.put_end.new.pool (g.O.Sink.seen c.put_end.new.out) (g.E.Sink.seen c.put_end.new.err))
    c.in_ok-put_stage.ensures c.put_end.ensures
