use Rattle.run_commands.specs.Admission.{coming_of_frame}
use Rattle.run_commands.proofs.DriverEntering.{entering_none, entering_one}
use Rattle.run_commands.proofs.packet_driver.enter_frames.Goals as goal

pub frames-init : goal.frames-init
frames-init g c = entering_none
    (coming_of_frame c.args.course.now.net.now c.args.course.now.choices.now (g.W.Enters.entry c.args.enters.now))
    c.args.course.now.net.now (g.N.Frames.seen c.args.frames.now) c.new-entered.result.numbers.items c.new-entered.result.flight
    c.new-entered.ensures.flight c.new-entered.ensures.numbers

pub frames-preserved : goal.frames-preserved
frames-preserved g c = entering_one c.args.course.now.net.now c.args.course.now.choices.now (g.W.Enters.entry c.args.enters.now)
    _ _ _ _ _ c.frames.invariant (rw c.in-Frame.is at c.in_ok-next.ensures)
    c.enter_at_hand.new.entered.numbers.items c.enter_at_hand.new.entered.flight c.in_ok-enter_at_hand-in-Frame.ensures
