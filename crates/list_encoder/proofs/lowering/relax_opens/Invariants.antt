use Rattle.std.proofs.Common.{false}
use Rattle.list_encoder.specs.CellTable.{RoomsRelaxed}
use Rattle.list_encoder.proofs.lowering.relax_opens.Given as goal

abbrev pub invariant-loop-room : goal.invariant-loop-room
invariant-loop-room g l = RoomsRelaxed (g.L.Legs.seen l.legs) l.cells l.edge false 1 l.room l.initial.table l.table l.changed
