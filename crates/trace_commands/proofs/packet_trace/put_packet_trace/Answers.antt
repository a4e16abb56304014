use Rattle.std.proofs.Common.{[], ◌∷◌, None, refl}
use Rattle.std.proofs.lemmas.Result.{err_from_is_err_and}
use Rattle.srx_edge.specs.CallSteps.{Whole}
use Rattle.command_output.specs.CommandAnswers.{ending_of_failure, ending_of_step}
use Rattle.trace_commands.specs.TraceCommand.{traced_as}
use Rattle.trace_commands.proofs.TraceSteps.{ended_then, head_cut, packets_cut, wrote_one}
use Rattle.trace_commands.proofs.packet_trace.put_packet_trace.Goals as goal

pub returns-in_err-put_head : goal.returns-in_err-put_head
returns-in_err-put_head g c =
    let p = err_from_is_err_and c.from_residual.result c.from_residual.ensures.1 in
    let t = c.args.teller.now in
    let one = traced_as t.node t.choices.now c.args.packet.number c.args.packet.family c.args.packet.content in
    rw (p.1, p.2) (head_cut t.net.now (one ∷ []) c.in_err-put_head.field-0.0 None _ _ c.in_err-put_head.ensures)

pub returns-in_err-put_packet : goal.returns-in_err-put_packet
returns-in_err-put_packet g c =
    let p = err_from_is_err_and c.from_residual-in_err-put_packet.result c.from_residual-in_err-put_packet.ensures.1 in
    let t = c.args.teller.now in
    let one = traced_as t.node t.choices.now c.args.packet.number c.args.packet.family c.args.packet.content in
    rw (p.1, p.2) (packets_cut t.net.now (one ∷ []) c.in_err-put_packet.field-0.0 None _ _ _ c.in_ok-put_head.ensures
    (wrote_one (ending_of_failure c.in_err-put_packet.field-0.0) t.net.now one _ _ c.in_err-put_packet.ensures))

pub returns : goal.returns
returns g c =
    let t = c.args.teller.now in
    let one = traced_as t.node t.choices.now c.args.packet.number c.args.packet.family c.args.packet.content in
    ended_then t.net.now (one ∷ []) (ending_of_step c.put_end.result) None _ _ _ _ refl c.in_ok-put_head.ensures
    (wrote_one Whole t.net.now one _ _ c.in_ok-put_packet.ensures) c.put_end.ensures
