use Rattle.std.proofs.Common.{take}
use Rattle.list_encoder.specs.Grouped.{PutsEdges}
use Rattle.list_encoder.proofs.grouped.put_edges.Given as goal

abbrev pub invariant-loop-edge : goal.invariant-loop-edge
invariant-loop-edge l = PutsEdges l.fn.groups (take l.edge-index l.edges) l.groups
