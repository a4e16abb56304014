use Rattle.std.proofs.Common.{true}
use Rattle.list_encoder.specs.CellTable.{RoomsRelaxed}
use Rattle.list_encoder.proofs.lowering.relax_stays.Given as goal

abbrev pub invariant-loop-room : goal.invariant-loop-room
invariant-loop-room g l = RoomsRelaxed (g.L.Legs.seen l.legs) l.cells l.edge true 0 l.room l.initial.table l.table l.changed
