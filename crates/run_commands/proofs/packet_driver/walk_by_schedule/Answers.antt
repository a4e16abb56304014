use Rattle.std.proofs.Common.{length, sym, ◌∙◌}
use Rattle.std.proofs.lemmas.Bool.{eqb-true}
use Rattle.std.proofs.lemmas.Result.{err_from_is_err_and}
use Rattle.command_output.specs.CommandAnswers.{ending_of_step}
use Rattle.command_output.specs.GatheredTerms.{pooled}
use Rattle.command_output.proofs.PublicLaws.{goes_kept}
use Rattle.run_commands.proofs.Scheduling.{wrote_in_order}
use Rattle.run_commands.proofs.packet_driver.walk_by_schedule.Goals as goal

pub returns-then-is_empty-clause-wrote : goal.returns-then-is_empty-clause-wrote
returns-then-is_empty-clause-wrote g c =
    wrote_in_order c.args.course.now.net.now c.args.course.now.choices.now (g.W.Enters.entry c.args.enters.now)
    (g.N.Frames.seen c.args.frames.now).frames c.args.course.now.schedule.now
    (eqb-true (length c.args.course.now.schedule.now) 0 (sym c.is_empty.ensures ∙ c.if-is_empty.true)) (ending_of_step c.put_frames.result)
    (pooled c.args.pool.now (g.O.Sink.seen c.args.out.now) (g.E.Sink.seen c.args.err.now))
    (pooled c.put_frames.new.pool (g.O.Sink.seen c.put_frames.new.out) (g.E.Sink.seen c.put_frames.new.err)) c.put_frames.ensures.wrote

pub returns-in_err-line-clause-wrote : goal.returns-in_err-line-clause-wrote
returns-in_err-line-clause-wrote g c =
    let p = err_from_is_err_and c.from_residual.result c.from_residual.ensures.1 in
    rw (p.1, p.2) (goes_kept _ _)

pub returns-in_err-entered-clause-wrote : goal.returns-in_err-entered-clause-wrote
returns-in_err-entered-clause-wrote g c =
    let p = err_from_is_err_and c.from_residual-in_err-entered.result c.from_residual-in_err-entered.ensures.1 in
    rw (p.1, p.2) (goes_kept _ _)
