use Rattle.std.proofs.Common.{◌≡◌, length}
use Rattle.segment_reading.specs.Readings.{equal_values}
use Rattle.segment_reading.proofs.reading.are_same.Given as goal

-- what the rests answer is the answer
abbrev pub invariant-loop-a_rest : goal.invariant-loop-a_rest
invariant-loop-a_rest l = equal_values l.a_rest l.b_rest ≡ equal_values l.a l.b

abbrev pub decreases-loop-a_rest : goal.decreases-loop-a_rest
decreases-loop-a_rest l = length l.a_rest
