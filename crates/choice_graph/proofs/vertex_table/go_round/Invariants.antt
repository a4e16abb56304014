use Rattle.choice_graph.proofs.GraphTables.{Settles}
use Rattle.choice_graph.proofs.vertex_table.go_round.Given as goal

abbrev pub invariant-loop-v : goal.invariant-loop-v
invariant-loop-v l = Settles l.vertices l.initial.table l.table l.added l.v
