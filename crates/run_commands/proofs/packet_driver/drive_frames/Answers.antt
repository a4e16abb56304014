use Rattle.std.proofs.Common.{◌++◌}
use Rattle.std.proofs.lemmas.Result.{err_from_is_err_and}
use Rattle.srx_edge.specs.CallSteps.{Whole}
use Rattle.command_output.specs.GatheredTerms.{pooled}
use Rattle.command_output.proofs.PublicLaws.{cut_short, cut_then, goes_both, none_went, poured_last, unpoured_last}
use Rattle.run_commands.specs.Admission.{comings_of_frames, first_pieces}
use Rattle.run_commands.specs.Scheduled.{scheduled_pieces}
use Rattle.run_commands.proofs.packet_driver.drive_frames.Goals as goal

pub returns-in_err-pool-clause-wrote : goal.returns-in_err-pool-clause-wrote
returns-in_err-pool-clause-wrote g c =
    let p = err_from_is_err_and c.from_residual.result c.from_residual.ensures.1 in
    rw (p.1, p.2) (none_went _ _)

pub returns-in_err-put_first-clause-wrote : goal.returns-in_err-put_first-clause-wrote
returns-in_err-put_first-clause-wrote g c =
    let p = err_from_is_err_and c.from_residual-in_err-put_first.result c.from_residual-in_err-put_first.ensures.1 in
    let net = c.args.course.now.net.now in
    let entry = g.W.Enters.entry c.args.enters.now in
    let frames = (g.N.Frames.seen c.args.first.now).frames in
    rw (p.1, p.2) (cut_short c.in_err-put_first.field-0.0 (first_pieces net entry frames)
    (scheduled_pieces net c.args.course.now.schedule.now (comings_of_frames net c.args.course.now.choices.now entry frames))
    (pooled c.in_ok-pool.pool (g.O.Sink.seen c.args.out.now) (g.E.Sink.seen c.args.err.now))
    _ c.in_ok-pool.ensures c.in_err-put_first.ensures)

pub returns-in_err-fault-clause-wrote : goal.returns-in_err-fault-clause-wrote
returns-in_err-fault-clause-wrote g c =
    let p = err_from_is_err_and c.from_residual-in_err-fault.result c.from_residual-in_err-fault.ensures.1 in
    let net = c.args.course.now.net.now in
    let entry = g.W.Enters.entry c.args.enters.now in
    let frames = (g.N.Frames.seen c.args.first.now).frames in
    rw (p.1, p.2) (cut_then c.in_err-fault.field-0.0 (first_pieces net entry frames)
    (scheduled_pieces net c.args.course.now.schedule.now (comings_of_frames net c.args.course.now.choices.now entry frames))
    (pooled c.in_ok-pool.pool (g.O.Sink.seen c.args.out.now) (g.E.Sink.seen c.args.err.now)) _ _ c.in_ok-pool.ensures
    c.in_ok-put_first.ensures (rw c.requires.same at c.in_err-fault.ensures.wrote))

pub returns-in_err-pour-clause-wrote : goal.returns-in_err-pour-clause-wrote
returns-in_err-pour-clause-wrote g c =
    let p = err_from_is_err_and c.from_residual-in_err-pour.result c.from_residual-in_err-pour.ensures.1 in
    let net = c.args.course.now.net.now in
    let entry = g.W.Enters.entry c.args.enters.now in
    let frames = (g.N.Frames.seen c.args.first.now).frames in
    let first = first_pieces net entry frames in
    let more = scheduled_pieces net c.args.course.now.schedule.now (comings_of_frames net c.args.course.now.choices.now entry frames) in
    let old = pooled c.in_ok-pool.pool (g.O.Sink.seen c.args.out.now) (g.E.Sink.seen c.args.err.now) in
    let mid = pooled c.walk_by_schedule.new.pool (g.O.Sink.seen c.walk_by_schedule.new.out) (g.E.Sink.seen c.walk_by_schedule.new.err) in
    rw (p.1, p.2) (unpoured_last c.in_err-pour.field-0.0 (first ++ more) old mid _ c.in_ok-pool.ensures
    (goes_both first more old _ mid c.in_ok-put_first.ensures (rw c.requires.same at c.in_ok-fault.ensures.wrote))
    c.in_err-pour.ensures.wrote)

pub returns-clause-wrote : goal.returns-clause-wrote
returns-clause-wrote g c =
    let net = c.args.course.now.net.now in
    let entry = g.W.Enters.entry c.args.enters.now in
    let frames = (g.N.Frames.seen c.args.first.now).frames in
    let first = first_pieces net entry frames in
    let more = scheduled_pieces net c.args.course.now.schedule.now (comings_of_frames net c.args.course.now.choices.now entry frames) in
    let old = pooled c.in_ok-pool.pool (g.O.Sink.seen c.args.out.now) (g.E.Sink.seen c.args.err.now) in
    let mid = pooled c.walk_by_schedule.new.pool (g.O.Sink.seen c.walk_by_schedule.new.out) (g.E.Sink.seen c.walk_by_schedule.new.err) in
    poured_last Whole (first ++ more) old mid _ c.in_ok-pool.ensures
    (goes_both first more old _ mid c.in_ok-put_first.ensures (rw c.requires.same at c.in_ok-fault.ensures.wrote))
    c.in_ok-pour.ensures.wrote
