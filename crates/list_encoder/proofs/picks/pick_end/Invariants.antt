use Rattle.list_encoder.proofs.Picking.{EndsPicked}
use Rattle.list_encoder.proofs.picks.pick_end.Given as goal

abbrev pub invariant-loop-sid : goal.invariant-loop-sid
invariant-loop-sid g l = EndsPicked (g.L.Legs.seen l.legs) l.cells l.table l.costed_state l.sid-items l.sid-index l.best
