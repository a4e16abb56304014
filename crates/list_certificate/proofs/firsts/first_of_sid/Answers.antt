use Rattle.std.proofs.Common.{subst}
use Rattle.list_certificate.specs.Tests.{ShowsFailure}
use Rattle.list_certificate.proofs.Ranges.{rooms_more}
use Rattle.list_certificate.proofs.firsts.first_of_sid.Goals as goal

pub loop-room-preserved : goal.loop-room-preserved
loop-room-preserved g c =
    let v = g.L.Legs.seen c.args.legs.now in
    rooms_more v c.steps.ensures.laws c.args.lines.now c.args.position c.args.n c.loop-room.room
    (subst (ShowsFailure v c.args.lines.now _) c.if-fails.false c.fails.ensures) c.loop-room.invariant
