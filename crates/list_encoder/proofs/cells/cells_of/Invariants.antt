use Rattle.list_encoder.proofs.SearchCelling.{AreCellsBefore}
use Rattle.list_encoder.proofs.cells.cells_of.Given as goal

abbrev pub invariant-loop-position : goal.invariant-loop-position
invariant-loop-position g l = AreCellsBefore (g.L.Legs.seen l.legs) l.position l.cells.items
