use Rattle.std.proofs.Common.{length}
use Rattle.packet_walk.specs.ScheduleTerms.{IsOf, due}
use Rattle.walk_tests.proofs.packet_walk_tests.turns_of.Given as goal

abbrev pub invariant-turns : goal.invariant-turns
invariant-turns g l = IsOf l.flight l.turns

-- fewer stages are due after each turn
abbrev pub decreases-turns : goal.decreases-turns
decreases-turns g l = length (due l.turns l.flight)
