use Rattle.std.proofs.Common.{[], ◌∷◌}
use Rattle.std.proofs.lemmas.Result.{err_from_is_err_and}
use Rattle.srx_edge.specs.CallSteps.{Whole}
use Rattle.command_output.specs.CommandAnswers.{ending_of_failure}
use Rattle.command_output.specs.GatheredTerms.{pooled}
use Rattle.command_output.specs.OutputPieces.{ForOut}
use Rattle.command_output.specs.OutputPiecesTerms.{sinks_of}
use Rattle.command_output.proofs.PublicLaws.{cut_short, poured_last, unpoured_last}
use Rattle.command_inputs.specs.InputPackets.{reading_of}
use Rattle.run_commands.specs.ShowCommand.{frame_lines, frames_lines}
use Rattle.run_commands.specs.Silent.{silent_seen}
use Rattle.run_commands.proofs.OutAlone.{out_alone, outs_went}
use Rattle.run_commands.proofs.show_command.show_packets.Goals as goal

pub returns-in_err-fault-clause-wrote : goal.returns-in_err-fault-clause-wrote
returns-in_err-fault-clause-wrote g c =
    let p = err_from_is_err_and c.from_residual-in_err-fault.result c.from_residual-in_err-fault.ensures.1 in
    let frames = (reading_of c.args.packets.now).frames in
    let old = pooled c.in_ok-pool.pool (g.O.Sink.seen c.args.out.now) silent_seen in
    let new = pooled c.put_frames.new.pool (g.O.Sink.seen c.put_frames.new.out) silent_seen in
    rw (p.1, p.2) (out_alone (frames_lines frames) old.sinks new.sinks (ending_of_failure c.in_err-fault.field-0.0)
    (cut_short c.in_err-fault.field-0.0 (ForOut (frames_lines frames) ∷ []) [] old new c.in_ok-pool.ensures
    (outs_went frame_lines frames (ending_of_failure c.in_err-fault.field-0.0) old new
    (rw c.frames-frames.ensures at c.in_err-fault.ensures.wrote))))

pub returns-in_err-pour-clause-wrote : goal.returns-in_err-pour-clause-wrote
returns-in_err-pour-clause-wrote g c =
    let p = err_from_is_err_and c.from_residual-in_err-pour.result c.from_residual-in_err-pour.ensures.1 in
    let frames = (reading_of c.args.packets.now).frames in
    let old = pooled c.in_ok-pool.pool (g.O.Sink.seen c.args.out.now) silent_seen in
    let mid = pooled c.put_frames.new.pool (g.O.Sink.seen c.put_frames.new.out) silent_seen in
    let new = sinks_of (g.O.Sink.seen c.pour.new.out) silent_seen in
    rw (p.1, p.2) (out_alone (frames_lines frames) old.sinks new (ending_of_failure c.in_err-pour.field-0.0)
    (unpoured_last c.in_err-pour.field-0.0 (ForOut (frames_lines frames) ∷ []) old mid new c.in_ok-pool.ensures
    (outs_went frame_lines frames Whole old mid (rw c.frames-frames.ensures at c.in_ok-fault.ensures.wrote)) c.in_err-pour.ensures.wrote))

pub returns-clause-wrote : goal.returns-clause-wrote
returns-clause-wrote g c =
    let frames = (reading_of c.args.packets.now).frames in
    let old = pooled c.in_ok-pool.pool (g.O.Sink.seen c.args.out.now) silent_seen in
    let mid = pooled c.put_frames.new.pool (g.O.Sink.seen c.put_frames.new.out) silent_seen in
    let new = sinks_of (g.O.Sink.seen c.pour.new.out) silent_seen in
    out_alone (frames_lines frames) old.sinks new Whole
    (poured_last Whole (ForOut (frames_lines frames) ∷ []) old mid new c.in_ok-pool.ensures
    (outs_went frame_lines frames Whole old mid (rw c.frames-frames.ensures at c.in_ok-fault.ensures.wrote)) c.in_ok-pour.ensures.wrote)
