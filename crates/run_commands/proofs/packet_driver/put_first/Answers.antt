use Rattle.std.proofs.Common.{[], ◌∷◌}
use Rattle.std.specs.List.{flat_map}
use Rattle.std.proofs.lemmas.Result.{err_from_is_err_and}
use Rattle.srx_edge.specs.CallSteps.{Whole}
use Rattle.pcap_io.specs.Capture.{written_head_bytes}
use Rattle.command_output.specs.CommandAnswers.{ending_of_failure}
use Rattle.command_output.specs.OutputPieces.{ForOut, ForErr}
use Rattle.command_output.proofs.PublicLaws.{goes_kept, goes_longer, goes_then}
use Rattle.run_commands.specs.Admission.{line_of_frame}
use Rattle.run_commands.proofs.Scheduling.{lines_went}
use Rattle.run_commands.proofs.packet_driver.put_first.Goals as goal

pub returns-in_err-line : goal.returns-in_err-line
returns-in_err-line g c =
    let p = err_from_is_err_and c.from_residual.result c.from_residual.ensures.1 in
    rw (p.1, p.2) (goes_kept _ _)

pub returns-in_err-put_head : goal.returns-in_err-put_head
returns-in_err-put_head g c =
    let p = err_from_is_err_and c.from_residual-in_err-put_head.result c.from_residual-in_err-put_head.ensures.1 in
    let lines = flat_map (line_of_frame c.args.course.now.net.now (g.W.Enters.entry c.args.enters.now))
    (g.N.Frames.seen c.args.frames.now).frames in
    rw (p.1, p.2) (goes_longer c.in_err-put_head.field-0.0 (ForOut written_head_bytes ∷ [])
    (ForErr lines ∷ []) _ _ c.in_err-put_head.ensures)

pub returns-in_err-put_frames : goal.returns-in_err-put_frames
returns-in_err-put_frames g c =
    let p = err_from_is_err_and c.from_residual-in_err-put_frames.result c.from_residual-in_err-put_frames.ensures.1 in
    let net = c.args.course.now.net.now in
    let entry = g.W.Enters.entry c.args.enters.now in
    let frames = (g.N.Frames.seen c.args.frames.now).frames in
    rw (p.1, p.2) (goes_then (ending_of_failure c.in_err-put_frames.field-0.0) (ForOut written_head_bytes ∷ [])
    (ForErr (flat_map (line_of_frame net entry) frames) ∷ []) _ _ _ c.in_ok-put_head.ensures
    (lines_went net entry frames (ending_of_failure c.in_err-put_frames.field-0.0) _ _ c.in_err-put_frames.ensures.wrote))

pub returns : goal.returns
returns g c =
    let net = c.args.course.now.net.now in
    let entry = g.W.Enters.entry c.args.enters.now in
    let frames = (g.N.Frames.seen c.args.frames.now).frames in
    goes_then Whole (ForOut written_head_bytes ∷ []) (ForErr (flat_map (line_of_frame net entry) frames) ∷ []) _ _ _
    c.in_ok-put_head.ensures (lines_went net entry frames Whole _ _ c.in_ok-put_frames.ensures.wrote)
