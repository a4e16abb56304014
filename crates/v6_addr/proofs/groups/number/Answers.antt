use Rattle.std.proofs.Common.{arith}
use Rattle.v6_addr.proofs.GroupSums.{more_fits, more_groups, no_groups_yet}
use Rattle.v6_addr.proofs.groups.number.Goals as goal

pub loop-group-init : goal.loop-group-init
loop-group-init c = no_groups_yet _

pub overflow_mul-value : goal.overflow_mul-value
overflow_mul-value c =
    omega (arith, more_fits c.loop-group.value 0 c.loop-group.group-index c.loop-group.invariant.bound (omega arith) (omega arith))

pub overflow_add-value : goal.overflow_add-value
overflow_add-value c =
    omega (
      arith,
      more_fits c.loop-group.value c.from.result c.loop-group.group-index c.loop-group.invariant.bound (omega arith)
          (omega arith),
    )

pub loop-group-preserved : goal.loop-group-preserved
loop-group-preserved c = more_groups _ _ _ _ c.loop-group-test.true c.loop-group.invariant c.from.ensures (omega arith)
