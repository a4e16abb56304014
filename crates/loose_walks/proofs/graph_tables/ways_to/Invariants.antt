use Rattle.loose_walks.proofs.WayRows.{AreWaysBelow}
use Rattle.loose_walks.proofs.graph_tables.ways_to.Given as goal

abbrev pub invariant-loop-node : goal.invariant-loop-node
invariant-loop-node l = AreWaysBelow l.net l.destination.value l.node l.by_node.items
