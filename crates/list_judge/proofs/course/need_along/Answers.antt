use Rattle.std.proofs.Common.{◌≡◌, None, Some, length, slice_get, refl, sym, subst, arith}
use Rattle.std.proofs.lemmas.Option.{slice_get_read}
use Rattle.list_judge_theory.specs.ListCourses.{Course}
use Rattle.list_judge.proofs.CourseWalks.{walked_end, walked_on, walked_stop}
use Rattle.list_judge.proofs.course.need_along.Goals as goal

pub returns-in-Ends : goal.returns-in-Ends
returns-in-Ends g c =
    let v = g.L.Legs.seen c.args.legs.now in
    let at = c.loop-i.at in
    let item : slice_get c.args.prefixes.now c.loop-i.i ≡ Some c.index-prefixes-i.result =
    slice_get_read c.args.prefixes.now (length c.args.prefixes.now) c.loop-i.i c.index-prefixes-i.result refl (omega arith) c.index-prefixes-i.is in
    subst (Course v c.args.net.now c.args.tail 0 None c.args.prefixes.now) (sym c.in_ok-more-in-Ends.ensures)
    (walked_end v c.args.net.now c.args.tail c.args.prefixes.now c.loop-i.i at.position at.via at.hops c.index-prefixes-i.result item
    c.loop-i.invariant c.in-Ends.hops c.in-Ends.ensures)

pub returns-in-Stops : goal.returns-in-Stops
returns-in-Stops g c =
    let v = g.L.Legs.seen c.args.legs.now in
    let at = c.loop-i.at in
    let item : slice_get c.args.prefixes.now c.loop-i.i ≡ Some c.index-prefixes-i.result =
    slice_get_read c.args.prefixes.now (length c.args.prefixes.now) c.loop-i.i c.index-prefixes-i.result refl (omega arith) c.index-prefixes-i.is in
    walked_stop v c.args.net.now c.args.tail c.args.prefixes.now c.loop-i.i at.position at.via at.hops c.index-prefixes-i.result item
    c.loop-i.invariant c.in-Stops.ensures

pub loop-i-preserved : goal.loop-i-preserved
loop-i-preserved g c =
    let v = g.L.Legs.seen c.args.legs.now in
    let at = c.loop-i.at in
    let item : slice_get c.args.prefixes.now c.loop-i.i ≡ Some c.index-prefixes-i.result =
    slice_get_read c.args.prefixes.now (length c.args.prefixes.now) c.loop-i.i c.index-prefixes-i.result refl (omega arith) c.index-prefixes-i.is in
    walked_on v c.args.net.now c.args.tail c.args.prefixes.now c.loop-i.i at.position at.via at.hops c.index-prefixes-i.result item
    c.loop-i.invariant c.in-Goes.sid c.in-Goes.leg c.in_ok-more-in-Goes.field-0 c.in-Goes.ensures c.in_ok-more-in-Goes.ensures
