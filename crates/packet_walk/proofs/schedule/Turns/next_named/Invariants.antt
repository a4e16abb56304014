use Rattle.std.proofs.Common.{length}
use Rattle.packet_walk.specs.ScheduleTerms.{IsLeft}
use Rattle.packet_walk.proofs.schedule.Turns.next_named.Given as goal

abbrev pub invariant-entries : goal.invariant-entries
invariant-entries l = IsLeft l.fn.self l.flight l.self

abbrev pub decreases-entries : goal.decreases-entries
decreases-entries l = length l.self.schedule
