use Rattle.choice_graph.specs.VertexTables.{IsSound}
use Rattle.loose_walks.specs.WayGraphs.{graph_in}
use Rattle.loose_walks.proofs.graph_tables.go_over.Given as goal

abbrev pub invariant-loop-left : goal.invariant-loop-left
invariant-loop-left l = IsSound (graph_in l.net l.ways.destination.value l.steps) l.table
