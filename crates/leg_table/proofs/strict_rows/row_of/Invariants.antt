use Rattle.std.proofs.Common.{◌≡◌}
use Rattle.leg_table.specs.PositionSids.{sids_below}
use Rattle.leg_table.proofs.strict_rows.row_of.Given as goal

abbrev pub invariant-loop-n : goal.invariant-loop-n
invariant-loop-n l = l.row.items ≡ sids_below l.net l.intent l.position l.n
