use Rattle.v6_addr.proofs.AddressRuns.{RunsFrom}
use Rattle.v6_addr.proofs.write.find_longest_run.Given as goal

abbrev pub invariant-loop-i : goal.invariant-loop-i
invariant-loop-i l = RunsFrom l.groups l.i l.here l.run.start l.run.count

abbrev pub decreases-loop-i : goal.decreases-loop-i
decreases-loop-i l = l.i
