use Rattle.std.proofs.Common.{◌∙◌}
use Rattle.command_inputs.proofs.FramesFound.{pieces_found, pieces_ended}
use Rattle.command_inputs.proofs.sources.CaptureFramesFrames.next.Goals as goal

pub returns-in-Frame : goal.returns-in-Frame
returns-in-Frame c = pieces_found c.args.self.now.pieces c.next.new.self (rw c.in-Frame.is at c.in_ok-next.ensures)

pub returns-in-End : goal.returns-in-End
returns-in-End c =
    let ended = pieces_ended c.args.self.now.pieces c.in-End.end (rw c.in-End.is at c.in_ok-next.ensures) in
    (ended.0, c.refusal_of_capture_end.ensures ∙ ended.1)
