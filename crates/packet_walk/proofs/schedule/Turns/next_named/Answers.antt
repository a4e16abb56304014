use Rattle.std.proofs.Common.{◌-◌, get_or, length, take, drop, sym, subst}
use Rattle.packet_walk.specs.ScheduleTerms.{Progress, progress, IsLeft}
use Rattle.packet_walk.proofs.Due.{split_first, left_turn}
use Rattle.packet_walk.proofs.schedule.Turns.next_named.Goals as goal

pub returns-in-Some : goal.returns-in-Some
returns-in-Some c =
    let entries = c.self.inside.schedule.now in
    let now : Progress = progress entries c.self.inside.numbers.now c.self.inside.passed in
    left_turn c.args.self.now now c.args.flight.now (get_or entries 0 0) (take (length entries - 1) (drop 1 entries))
    (subst (IsLeft c.args.self.now c.args.flight.now) (sym c.self.view_is) c.entries.invariant)
    (split_first entries c.in-len1-up.len_at_least) c.in-Some.number c.in-Some.ensures
