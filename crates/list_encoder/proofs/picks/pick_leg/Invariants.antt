use Rattle.list_encoder.proofs.Picking.{LegsPicked}
use Rattle.list_encoder.proofs.picks.pick_leg.Given as goal

abbrev pub invariant-loop-to : goal.invariant-loop-to
invariant-loop-to g l = LegsPicked (g.L.Legs.seen l.legs) l.cells l.table l.costed_state l.to l.best
