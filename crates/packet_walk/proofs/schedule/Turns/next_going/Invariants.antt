use Rattle.std.proofs.Common.{◌≡◌, ◌-◌, [], length}
use Rattle.std.specs.List.Sorted.{IsStrictlyIncreasing}
use Rattle.packet_walk.specs.ScheduleTerms.{IsOf, progress}
use Rattle.packet_walk.proofs.schedule.Turns.next_going.Given as goal

-- no entry is left, and the packets passed have ended
abbrev pub invariant-packets : goal.invariant-packets
invariant-packets l =
    record {
      rising : IsStrictlyIncreasing l.self-inside.numbers.now;
      later : IsOf l.flight (progress l.self-inside.schedule.now l.self-inside.numbers.now l.self-inside.passed);
      behind : l.self-inside.schedule.now ≡ [];
      numbers : l.self-inside.numbers.now ≡ l.fn.self.numbers;
    }

abbrev pub decreases-packets : goal.decreases-packets
decreases-packets l = length l.flight.packets - l.self-inside.passed
