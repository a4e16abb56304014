use Rattle.segment_reading.specs.Readings.{LongestOf}
use Rattle.segment_reading.proofs.full.longest_at.Given as goal

-- it is the longest one of the SIDs so far
abbrev pub invariant-loop-n : goal.invariant-loop-n
invariant-loop-n l = LongestOf l.net.sids l.n l.address.value l.longest
