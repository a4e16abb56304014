use Rattle.walk_rules.specs.WayTerms.{way_in}
use Rattle.loose_walks.proofs.VertexNumbers.{way_arrived}
use Rattle.loose_walks.proofs.WayRows.{way_more}
use Rattle.loose_walks.proofs.graph_tables.ways_to.Goals as goal

pub loop-node-preserved : goal.loop-node-preserved
loop-node-preserved c =
    way_more c.args.net.now c.args.destination.value c.loop-node.node c.loop-node.by_node.items c.push.new.self.items c.way_in_table.result
    c.loop-node.invariant
    (way_arrived c.args.net.now c.loop-node.node c.args.destination.value c.table-table.result (way_in c.way_in_table.result)
    c.table-table.ensures c.way_in_table.ensures)
    c.in_ok-push.ensures.items
