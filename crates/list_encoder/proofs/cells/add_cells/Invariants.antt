use Rattle.std.proofs.Common.{◌≡◌, ◌++◌, map, take}
use Rattle.list_encoder.specs.Cells.{cell_at}
use Rattle.list_encoder.proofs.cells.add_cells.Given as goal

abbrev pub invariant-loop-n : goal.invariant-loop-n
invariant-loop-n l = l.cells.items ≡ l.initial.cells.items ++ map (cell_at l.position) (take l.n-index l.sids)
