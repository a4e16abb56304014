use Rattle.list_judge.proofs.CourseSids.{NoneOn}
use Rattle.list_judge.proofs.course.next_on.Given as goal

-- none of the SIDs so far is the next one
abbrev pub invariant-loop-n : goal.invariant-loop-n
invariant-loop-n g l = NoneOn (g.L.Legs.seen l.legs) l.net l.position l.via l.prefix l.n
