use Rattle.std.proofs.Common.{Bool, true, false, subst}
use Rattle.list_pack.specs.declared.types.State.{State}
use Rattle.list_certificate.specs.Tests.{PassesLast, move_of, state_in, Tells}
use Rattle.list_certificate.proofs.MovesPassing.{both_stays}
use Rattle.list_certificate.proofs.CertificateCelling.{rooms_last}
use Rattle.list_certificate.proofs.all_pass.pass_finish.Goals as goal

pub loop-room-preserved : goal.loop-room-preserved
loop-room-preserved g c =
    let v = g.L.Legs.seen c.args.legs.now in
    let lines = c.args.lines.now in
    let cell = c.args.cell.now in
    let n = c.args.n in
    let s = c.costed_state_in-costed_state.result.state in
    rooms_last v lines cell n c.loop-room.room
    (both_stays (λ (b : Bool). PassesLast v lines (state_in cell c.loop-room.room) (move_of n b))
    (subst (λ (x : State). PassesLast v lines x (move_of n true)) c.costed_state_in-costed_state.ensures.state
    (subst (Tells (PassesLast v lines s (move_of n true))) c.if-not-passes_last.false c.passes_last.ensures))
    (subst (λ (x : State). PassesLast v lines x (move_of n false)) c.costed_state_in-costed_state.ensures.state
    (subst (Tells (PassesLast v lines s (move_of n false))) c.if-not-passes_last-2.false
    c.passes_last-in-loop-room.ensures))) c.loop-room.invariant
