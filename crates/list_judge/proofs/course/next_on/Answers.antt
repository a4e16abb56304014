use Rattle.list_judge.proofs.CourseSids.{none_more}
use Rattle.list_judge.proofs.course.next_on.Goals as goal

pub loop-n-preserved : goal.loop-n-preserved
loop-n-preserved g c =
    none_more (g.L.Legs.seen c.args.legs.now) c.args.net.now c.args.position c.args.via c.args.prefix.now c.loop-n.n c.loop-n.invariant
    (c.is_next_on.ensures.off c.if-is_next_on.false)
