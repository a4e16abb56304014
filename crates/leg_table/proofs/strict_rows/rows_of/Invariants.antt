use Rattle.std.proofs.Common.{◌≡◌, Some}
use Rattle.leg_table.specs.PositionSids.{node_at}
use Rattle.leg_table.specs.StrictTableTerms.{AreRows}
use Rattle.leg_table.proofs.strict_rows.rows_of.Given as goal

abbrev pub invariant-loop-i : goal.invariant-loop-i
invariant-loop-i l = record {
  stands : node_at l.net l.intent l.i ≡ Some l.node;
  rows : AreRows l.net l.intent l.i l.rows.items;
}
