use Rattle.choice_graph.specs.VertexTables.{Adds}
use Rattle.choice_graph.proofs.vertex_table.go_over.Given as goal

abbrev pub invariant-loop-v : goal.invariant-loop-v
invariant-loop-v l = Adds l.vertices l.initial.table l.table l.added
