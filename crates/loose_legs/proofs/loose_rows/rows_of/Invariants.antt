use Rattle.loose_legs.specs.LooseTable.{AreRows}
use Rattle.loose_legs.proofs.loose_rows.rows_of.Given as goal

abbrev pub invariant-loop-position : goal.invariant-loop-position
invariant-loop-position l = AreRows l.net l.intent l.steps l.position l.rows.items
