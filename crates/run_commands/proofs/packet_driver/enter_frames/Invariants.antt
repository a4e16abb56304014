use Rattle.std.proofs.Common.{length}
use Rattle.run_commands.specs.Admission.{coming_of_frame}
use Rattle.run_commands.proofs.DriverEntering.{EnteredOf}
use Rattle.run_commands.proofs.packet_driver.enter_frames.Given as goal

abbrev pub invariant-frames : goal.invariant-frames
invariant-frames g l = EnteredOf (coming_of_frame l.course.net.now l.course.choices.now (g.W.Enters.entry l.enters)) l.course.net.now
    (g.N.Frames.seen l.fn.frames) (g.N.Frames.seen l.frames) l.entered.numbers.items l.entered.flight

abbrev pub decreases-frames : goal.decreases-frames
decreases-frames g l = length (g.N.Frames.seen l.frames).frames
