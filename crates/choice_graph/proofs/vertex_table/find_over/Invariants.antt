use Rattle.std.proofs.Common.{◌≡◌, drop}
use Rattle.choice_graph.specs.FoundInGraphs.{joined, found_over}
use Rattle.choice_graph.specs.VertexTables.{known_at}
use Rattle.choice_graph.proofs.vertex_table.find_over.Given as goal

abbrev pub invariant-loop-w : goal.invariant-loop-w
invariant-loop-w l = joined (known_at l.table) l.found (drop l.w-index l.rest) ≡ found_over (known_at l.table) l.set
