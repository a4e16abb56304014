use Rattle.std.proofs.Common.{◌-◌}
use Rattle.v6_addr.proofs.AddressReading.{NoGapBefore}
use Rattle.v6_addr.proofs.parse.find_gap.Given as goal

abbrev pub invariant-loop-i : goal.invariant-loop-i
invariant-loop-i l = NoGapBefore l.text (l.i - 1)
