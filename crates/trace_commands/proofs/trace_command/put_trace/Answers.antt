use Rattle.std.proofs.Common.{◌∙◌, sym}
use Rattle.std.proofs.lemmas.Result.{err_from_is_err_and}
use Rattle.srx_edge.specs.CallSteps.{Whole}
use Rattle.command_output.specs.CommandAnswers.{ending_of_failure}
use Rattle.command_inputs.specs.InputPackets.{reading_of, fault_of}
use Rattle.trace_commands.specs.TraceCommand.{traced_of}
use Rattle.trace_commands.proofs.TraceSteps.{ended_then, head_cut, packets_cut, unended_whole, wrote_frames}
use Rattle.trace_commands.proofs.trace_command.put_trace.Goals as goal

pub returns-in_err-put_head-clause-wrote : goal.returns-in_err-put_head-clause-wrote
returns-in_err-put_head-clause-wrote g c =
    let p = err_from_is_err_and c.from_residual.result c.from_residual.ensures.1 in
    let t = c.args.teller.now in
    let read = reading_of c.args.packets.now in
    rw (p.1, p.2) (head_cut t.net.now (traced_of t.node t.choices.now read.frames) c.in_err-put_head.field-0.0 (fault_of read) _ _
    c.in_err-put_head.ensures)

pub returns-in_err-fault-clause-wrote : goal.returns-in_err-fault-clause-wrote
returns-in_err-fault-clause-wrote g c =
    let p = err_from_is_err_and c.from_residual-in_err-fault.result c.from_residual-in_err-fault.ensures.1 in
    let t = c.args.teller.now in
    let read = reading_of c.args.packets.now in
    rw (p.1, p.2) (packets_cut t.net.now (traced_of t.node t.choices.now read.frames) c.in_err-fault.field-0.0 (fault_of read) _ _ _
    c.in_ok-put_head.ensures
    (wrote_frames (ending_of_failure c.in_err-fault.field-0.0) t.net.now t.node t.choices.now read.frames _ _
    (rw c.frames-frames.ensures at c.in_err-fault.ensures.wrote)))

pub returns-in-Some-clause-wrote : goal.returns-in-Some-clause-wrote
returns-in-Some-clause-wrote g c =
    let t = c.args.teller.now in
    let read = reading_of c.args.packets.now in
    unended_whole t.net.now (traced_of t.node t.choices.now read.frames) (fault_of read) c.in-Some.refusal _ _ _
    (sym (rw c.frames-frames.ensures at c.in_ok-fault.ensures.fault) ∙ c.in-Some.is) c.in_ok-put_head.ensures
    (wrote_frames Whole t.net.now t.node t.choices.now read.frames _ _
    (rw c.frames-frames.ensures at c.in_ok-fault.ensures.wrote))

pub returns-in_err-put_end-in-None-clause-wrote : goal.returns-in_err-put_end-in-None-clause-wrote
returns-in_err-put_end-in-None-clause-wrote g c =
    let p = err_from_is_err_and c.from_residual-in_err-put_end-in-None.result c.from_residual-in_err-put_end-in-None.ensures.1 in
    let t = c.args.teller.now in
    let read = reading_of c.args.packets.now in
    rw (p.1, p.2) (ended_then t.net.now (traced_of t.node t.choices.now read.frames)
    (ending_of_failure c.in_err-put_end-in-None.field-0.0) (fault_of read) _ _ _ _
    (sym (rw c.frames-frames.ensures at c.in_ok-fault.ensures.fault) ∙ c.in-None.is) c.in_ok-put_head.ensures
    (wrote_frames Whole t.net.now t.node t.choices.now read.frames _ _
    (rw c.frames-frames.ensures at c.in_ok-fault.ensures.wrote)) c.in_err-put_end-in-None.ensures)

pub returns-clause-wrote : goal.returns-clause-wrote
returns-clause-wrote g c =
    let t = c.args.teller.now in
    let read = reading_of c.args.packets.now in
    ended_then t.net.now (traced_of t.node t.choices.now read.frames)
    Whole (fault_of read) _ _ _ _ (sym (rw c.frames-frames.ensures at c.in_ok-fault.ensures.fault) ∙ c.in-None.is) c.in_ok-put_head.ensures
    (wrote_frames Whole t.net.now t.node t.choices.now read.frames _ _
    (rw c.frames-frames.ensures at c.in_ok-fault.ensures.wrote)) c.in_ok-put_end-in-None.ensures
