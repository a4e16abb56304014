use Rattle.choice_graph.specs.VertexTables.{IsSound}
use Rattle.loose_walks.specs.WayGraphs.{graph_in}
use Rattle.loose_walks.proofs.graph_tables.go_along.Given as goal

abbrev pub invariant-loop-node : goal.invariant-loop-node
invariant-loop-node l = IsSound (graph_in l.net l.ways.destination.value l.steps) l.table
