use Rattle.list_encoder.specs.Grouped.{AreEmpty}
use Rattle.list_encoder.proofs.grouped.no_groups.Given as goal

abbrev pub invariant-loop-i : goal.invariant-loop-i
invariant-loop-i l = AreEmpty l._i l.groups.items
