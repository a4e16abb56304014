use Rattle.std.proofs.Common.{length}
use Rattle.update_driver.proofs.EventStarting.{SeatsOf}
use Rattle.update_driver.proofs.arriving.seats_of.Given as goal

abbrev pub invariant-frames : goal.invariant-frames
invariant-frames g l = SeatsOf (g.W.Enters.entry l.enters) (g.N.Frames.seen l.fn.frames) (g.N.Frames.seen l.frames) l.seats.items

abbrev pub decreases-frames : goal.decreases-frames
decreases-frames g l = length (g.N.Frames.seen l.frames).frames
