use Rattle.list_judge.proofs.CourseWalks.{Walked}
use Rattle.list_judge.proofs.course.need_along.Given as goal

-- a course along all prefixes is one along those that are left
abbrev pub invariant-loop-i : goal.invariant-loop-i
invariant-loop-i g l = Walked (g.L.Legs.seen l.legs) l.net l.tail l.prefixes l.i l.at.position l.at.via l.at.hops
