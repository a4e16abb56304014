use Rattle.std.proofs.Common.{rules}
use Rattle.update_driver.proofs.EventStarting.{seats_none, seats_one}
use Rattle.update_driver.proofs.arriving.seats_of.Goals as goal

pub frames-init : goal.frames-init
frames-init g c = seats_none (g.W.Enters.entry c.args.enters.now) (g.N.Frames.seen c.args.frames.now) c.new-seats.result.items
    (search rules)

pub frames-preserved : goal.frames-preserved
frames-preserved g c = seats_one (g.W.Enters.entry c.args.enters.now) _ _ _ _ _ c.frames.invariant
    (rw c.in-Frame.is at c.in_ok-next.ensures)
    c.in_ok-seat_at_hand-in-Frame.ensures
