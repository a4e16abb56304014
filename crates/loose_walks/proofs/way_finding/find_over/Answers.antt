use Rattle.std.proofs.Common.{map, sym}
use Rattle.choice_graph.proofs.GraphTables.{over_low}
use Rattle.loose_walks.specs.WayGraphs.{next_vertex, numbers_of}
use Rattle.loose_walks.proofs.way_finding.find_over.Goals as goal

pub lowered-requires : goal.lowered-requires
lowered-requires c =
    over_low c.args.table.now (map (next_vertex c.args.net.now (numbers_of c.args.net.now c.args.count) c.args.left.now) c.args.links.now)
    c.in_ok-found.found c.requires.low (sym c.in_ok-found.ensures)
