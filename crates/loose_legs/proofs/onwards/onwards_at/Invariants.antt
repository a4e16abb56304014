use Rattle.loose_legs.proofs.OnwardRows.{AreRowsBelow}
use Rattle.loose_legs.proofs.onwards.onwards_at.Given as goal

abbrev pub invariant-loop-via : goal.invariant-loop-via
invariant-loop-via l = AreRowsBelow l.net l.intent l.steps l.position l.via l.rows.items
