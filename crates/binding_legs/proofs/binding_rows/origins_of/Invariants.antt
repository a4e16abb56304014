use Rattle.binding_legs.specs.BindingTable.{AreOrigins}
use Rattle.binding_legs.proofs.binding_rows.origins_of.Given as goal

abbrev pub invariant-loop-position : goal.invariant-loop-position
invariant-loop-position l = AreOrigins l.net l.intent l.position l.rows.items
