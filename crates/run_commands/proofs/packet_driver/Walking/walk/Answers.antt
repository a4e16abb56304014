use Rattle.std.proofs.Common.{[], ◌∷◌}
use Rattle.std.proofs.lemmas.Result.{err_from_is_err_and}
use Rattle.walk_rules.specs.Walk.{end_of}
use Rattle.srx_edge.specs.CallSteps.{Memory, Whole}
use Rattle.command_output.specs.CommandAnswers.{ending_of_failure}
use Rattle.command_output.specs.OutputLines.{packet_line}
use Rattle.command_output.specs.OutputPieces.{ForOut, ForErr}
use Rattle.command_output.proofs.PublicLaws.{goes_kept, goes_longer, goes_then}
use Rattle.run_commands.specs.WrittenCapture.{frames_of}
use Rattle.run_commands.specs.Admission.{walk_of_entrant}
use Rattle.run_commands.proofs.packet_driver.Walking.walk.Goals as goal

pub returns-in_err-walked-clause-wrote : goal.returns-in_err-walked-clause-wrote
returns-in_err-walked-clause-wrote g c =
    let p = err_from_is_err_and c.from_residual.result c.from_residual.ensures.1 in
    rw (p.1, p.2) (goes_longer c.in_err-walked.field-0.0 _ (_ ∷ []) _ _ c.in_err-walked.ensures.wrote)

pub returns-in_err-write_packet_line-clause-wrote : goal.returns-in_err-write_packet_line-clause-wrote
returns-in_err-write_packet_line-clause-wrote g c =
    let p = err_from_is_err_and c.from_residual-in_err-write_packet_line.result c.from_residual-in_err-write_packet_line.ensures.1 in
    rw (p.1, p.2) (goes_then Memory _ (_ ∷ []) _ _ _ c.in_ok-walked.ensures.wrote (goes_kept (_ ∷ []) _))

pub returns-in_err-put_err-clause-wrote : goal.returns-in_err-put_err-clause-wrote
returns-in_err-put_err-clause-wrote g c =
    let p = err_from_is_err_and c.from_residual-in_err-put_err.result c.from_residual-in_err-put_err.ensures.1 in
    let net = c.args.self.now.course.now.net.now in
    let steps = walk_of_entrant net c.args.self.now.course.now.choices.now c.args.comes in
    rw (p.1, p.2) (goes_then (ending_of_failure c.in_err-put_err.field-0.0) (ForOut (frames_of c.args.number steps) ∷ [])
    (ForErr (packet_line net c.args.number (end_of net steps)) ∷ []) _ _ _
    c.in_ok-walked.ensures.wrote
    (rw (c.as_bytes.ensures.value, c.in_ok-write_packet_line.ensures, c.in_ok-walked.ensures.ended) at c.in_err-put_err.ensures.goes))

pub returns-clause-wrote : goal.returns-clause-wrote
returns-clause-wrote g c =
    let net = c.args.self.now.course.now.net.now in
    let steps = walk_of_entrant net c.args.self.now.course.now.choices.now c.args.comes in
    goes_then Whole (ForOut (frames_of c.args.number steps) ∷ [])
    (ForErr (packet_line net c.args.number (end_of net steps)) ∷ []) _ _ _
    c.in_ok-walked.ensures.wrote
    (rw (c.as_bytes.ensures.value, c.in_ok-write_packet_line.ensures, c.in_ok-walked.ensures.ended) at c.in_ok-put_err.ensures.goes)
