use Rattle.v6_addr.proofs.GroupSums.{SummedGroups}
use Rattle.v6_addr.proofs.groups.number.Given as goal

abbrev pub invariant-loop-group : goal.invariant-loop-group
invariant-loop-group l = SummedGroups l.groups l.value l.group-index
