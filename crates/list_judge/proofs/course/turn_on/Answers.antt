use Rattle.list_judge.proofs.CourseSids.{none_stops}
use Rattle.list_judge.proofs.course.turn_on.Goals as goal

pub returns-in-None : goal.returns-in-None
returns-in-None g c =
    none_stops (g.L.Legs.seen c.args.legs.now) c.args.net.now c.steps.ensures.laws c.requires.sids c.args.at.now.position c.args.at.now.via
    c.args.prefix.now c.args.tail c.args.left c.in-None.ensures
