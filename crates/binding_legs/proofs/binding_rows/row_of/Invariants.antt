use Rattle.binding_legs.proofs.OriginRows.{AreOriginsBelow}
use Rattle.binding_legs.proofs.binding_rows.row_of.Given as goal

abbrev pub invariant-loop-sid : goal.invariant-loop-sid
invariant-loop-sid l = AreOriginsBelow l.net l.intent l.position l.sid l.row.items
