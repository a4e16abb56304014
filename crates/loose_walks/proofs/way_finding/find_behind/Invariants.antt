use Rattle.std.proofs.Common.{◌≡◌, drop, map}
use Rattle.choice_graph.specs.FoundInGraphs.{joined, found_over}
use Rattle.choice_graph.specs.VertexTables.{known_at}
use Rattle.loose_walks.specs.WayGraphs.{next_vertex, numbers_of}
use Rattle.loose_walks.proofs.way_finding.find_behind.Given as goal

abbrev pub invariant-loop-link : goal.invariant-loop-link
invariant-loop-link l =
    joined (known_at l.table) l.found (map (next_vertex l.net (numbers_of l.net l.count) l.left) (drop l.link-index l.rest))
    ≡ found_over (known_at l.table) (map (next_vertex l.net (numbers_of l.net l.count) l.left) l.links)
