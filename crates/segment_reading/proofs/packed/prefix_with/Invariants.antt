use Rattle.std.proofs.Common.{None}
use Rattle.segment_reading.specs.Readings.{PrefixWith}
use Rattle.segment_reading.proofs.packed.prefix_with.Given as goal

-- none of the SIDs so far has it
abbrev pub invariant-loop-n : goal.invariant-loop-n
invariant-loop-n l = PrefixWith l.net.sids l.n l.block l.csid None
