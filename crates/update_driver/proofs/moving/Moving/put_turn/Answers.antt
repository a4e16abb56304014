use Rattle.std.proofs.Common.{◌≡◌, IfSome, refl, ap, ◌∙◌, subst}
use Rattle.std.proofs.lemmas.Result.{err_from_is_err_and}
use Rattle.srv6_rules.specs.Packet.{bytes_of}
use Rattle.packet_walk.specs.Flight.{Packets, packet_in}
use Rattle.update_plan.specs.UpdateState.{Update}
use Rattle.command_output.specs.CommandAnswers.{ending_of_failure, ending_of_step}
use Rattle.command_output.proofs.PublicLaws.{goes_kept, goes_nowhere}
use Rattle.run_commands.proofs.DriverTurning.{ok_from}
use Rattle.srx_edge.specs.CallSteps.{Whole}
use Rattle.update_driver.specs.Going.{moving_of}
use Rattle.update_driver.specs.Moving.{with_update}
use Rattle.update_driver.proofs.EventTurning.{over_after, over_told, stage_after, stage_cut, stage_given, stage_went, stage_within, stage_writable}
use Rattle.update_driver.proofs.moving.Moving.put_turn.Goals as goal

pub returns-in_err-event-clause-wrote : goal.returns-in_err-event-clause-wrote
returns-in_err-event-clause-wrote g c =
    let p = err_from_is_err_and c.from_residual.result c.from_residual.ensures.1 in
    rw (p.1, p.2) (goes_kept _ _)

pub returns-in-None-clause-after : goal.returns-in-None-clause-after
returns-in-None-clause-after g c =
    ap (λ (u : Update). with_update (moving_of c.args.self.now) u) c.turn.ensures.rest
    ∙ over_after (moving_of c.args.self.now) c.args.turn.number c.args.turn.packet c.requires.given c.turn.new.self.transition.packets
    (rw c.in-None.is at c.in_ok-event.ensures.turn)

pub returns-in-None-clause-wrote : goal.returns-in-None-clause-wrote
returns-in-None-clause-wrote g c =
    let none = over_told (moving_of c.args.self.now) c.args.turn.number c.args.turn.packet c.requires.given
    c.turn.new.self.transition.packets
    (rw c.in-None.is at c.in_ok-event.ensures.turn) in
    rw none (goes_nowhere _)

pub bytes-packet-requires : goal.bytes-packet-requires
bytes-packet-requires g c =
    rw c.packets-packets.ensures (stage_given (moving_of c.args.self.now) c.args.turn.number c.args.turn.packet c.requires.given
    c.in-Some.event
    c.turn.new.self.transition.packets (rw c.in-Some.is at c.in_ok-event.ensures.turn))

pub put_sent-requires-clause-writable : goal.put_sent-requires-clause-writable
put_sent-requires-clause-writable g c =
    stage_writable (moving_of c.args.self.now) c.args.turn.number c.args.turn.packet c.requires.given c.in-Some.event
    c.turn.new.self.transition.packets (rw c.in-Some.is at c.in_ok-event.ensures.turn) c.keeps_packet.ensures.network
    c.keeps_packet.ensures.packet c.bytes-packet.result.now
    (subst (λ (all : Packets). IfSome (packet_in all.packets c.args.turn.packet) (λ p. c.bytes-packet.result.now ≡ bytes_of p.content))
    c.packets-packets.ensures c.bytes-packet.ensures)

pub returns-in_err-put_sent-clause-wrote : goal.returns-in_err-put_sent-clause-wrote
returns-in_err-put_sent-clause-wrote g c =
    let p = err_from_is_err_and c.from_residual-in_err-put_sent.result c.from_residual-in_err-put_sent.ensures.1 in
    rw (p.1, p.2) (stage_cut (moving_of c.args.self.now) c.args.turn.number c.args.turn.packet c.requires.given c.in-Some.event
    c.turn.new.self.transition.packets (rw c.in-Some.is at c.in_ok-event.ensures.turn) c.keeps_packet.ensures.network
    c.keeps_packet.ensures.packet c.bytes-packet.result.now c.error-error.result.now
    (subst (λ (all : Packets). IfSome (packet_in all.packets c.args.turn.packet) (λ p. c.bytes-packet.result.now ≡ bytes_of p.content))
    c.packets-packets.ensures c.bytes-packet.ensures)
    (c.error-error.ensures.bytes ∙ ap (λ (all : Packets). all.error) c.packets-packets.ensures)
    (ending_of_failure c.in_err-put_sent.field-0.0) _ _ c.in_err-put_sent.ensures c.args.self.now.net.now c.in_err-put_sent.field-0.0 refl)

pub put_end-requires-clause-given : goal.put_end-requires-clause-given
put_end-requires-clause-given g c =
    stage_given (moving_of c.args.self.now) c.args.turn.number c.args.turn.packet c.requires.given c.in-Some.event
    c.turn.new.self.transition.packets (rw c.in-Some.is at c.in_ok-event.ensures.turn)

pub put_end-requires-clause-within : goal.put_end-requires-clause-within
put_end-requires-clause-within g c =
    stage_within (moving_of c.args.self.now) c.args.turn.number c.args.turn.packet c.requires.given c.in-Some.event
    c.turn.new.self.transition.packets (rw c.in-Some.is at c.in_ok-event.ensures.turn) c.keeps_packet.ensures.network
    c.keeps_packet.ensures.packet c.args.self.now.net.now c.requires.nodes c.requires.links

pub returns-clause-after : goal.returns-clause-after
returns-clause-after g c =
    ok_from c.put_end.result _ (ap moving_of c.put_end.ensures.same
    ∙ (ap (λ (u : Update). with_update (moving_of c.args.self.now) u) c.turn.ensures.rest
    ∙ stage_after (moving_of c.args.self.now) c.args.turn.number c.args.turn.packet c.requires.given c.in-Some.event
    c.turn.new.self.transition.packets (rw c.in-Some.is at c.in_ok-event.ensures.turn)))

pub returns-clause-wrote : goal.returns-clause-wrote
returns-clause-wrote g c =
    stage_went (moving_of c.args.self.now) c.args.turn.number c.args.turn.packet c.requires.given c.in-Some.event
    c.turn.new.self.transition.packets (rw c.in-Some.is at c.in_ok-event.ensures.turn) c.keeps_packet.ensures.network
    c.keeps_packet.ensures.packet c.bytes-packet.result.now c.error-error.result.now
    (subst (λ (all : Packets). IfSome (packet_in all.packets c.args.turn.packet) (λ p. c.bytes-packet.result.now ≡ bytes_of p.content))
    c.packets-packets.ensures c.bytes-packet.ensures)
    (c.error-error.ensures.bytes ∙ ap (λ (all : Packets). all.error) c.packets-packets.ensures)
    Whole _ _ c.in_ok-put_sent.ensures c.args.self.now.net.now (ending_of_step c.put_end.result) _ refl c.put_end.ensures.wrote
