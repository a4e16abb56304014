use Rattle.std.proofs.Common.{◌≡◌}
use Rattle.std.proofs.lemmas.Result.{err_from_is_err_and}
use Rattle.packet_walk.specs.Schedule.{frame_of}
use Rattle.packet_walk.specs.ScheduleTerms.{IsTurnOf}
use Rattle.run_commands.proofs.DriverTurning.{frame_is, turns_cut, turns_on, turns_within}
use Rattle.run_commands.proofs.scheduled.put_turns.Goals as goal

pub turns-preserved : goal.turns-preserved
turns-preserved g c =
    let turn : IsTurnOf c.turns.turns c.turns.flight c.in-Some.packet c.next.new.self = rw c.in-Some.is at c.next.ensures in
    let is : c.index-number.result.now ≡ frame_of c.args.entered.numbers.items c.in-Some.packet =
    frame_is c.args.entered.numbers.items c.in-Some.packet c.index-number.result.now turn.given.first
    (turns_within c.args.course.now.net.now c.args.entered.numbers.items _ c.turns.turns c.next.new.self
    c.turns.flight _ _ c.turns.invariant
    c.in-Some.packet turn) c.index-number.ensures in
    turns_on c.args.course.now.net.now c.args.entered.numbers.items _ c.turns.turns c.next.new.self
    c.turns.flight _ _ c.turns.invariant
    c.in-Some.packet c.index-number.result.now turn is c.put_turn.new.flight _ c.in_ok-put_turn.ensures.turned
    c.in_ok-put_turn.ensures.wrote

pub returns-in_err-put_turn : goal.returns-in_err-put_turn
returns-in_err-put_turn g c =
    let turn : IsTurnOf c.turns.turns c.turns.flight c.in-Some.packet c.next.new.self = rw c.in-Some.is at c.next.ensures in
    let is : c.index-number.result.now ≡ frame_of c.args.entered.numbers.items c.in-Some.packet =
    frame_is c.args.entered.numbers.items c.in-Some.packet c.index-number.result.now turn.given.first
    (turns_within c.args.course.now.net.now c.args.entered.numbers.items _ c.turns.turns c.next.new.self
    c.turns.flight _ _ c.turns.invariant
    c.in-Some.packet turn) c.index-number.ensures in
    let p = err_from_is_err_and c.from_residual.result c.from_residual.ensures.1 in
    rw (p.1, p.2) (turns_cut c.args.course.now.net.now c.args.entered.numbers.items _ c.turns.turns c.next.new.self
    c.turns.flight _ _
    c.turns.invariant c.in-Some.packet c.index-number.result.now turn is c.in_err-put_turn.field-0.0 _
    c.in_err-put_turn.ensures.wrote)
