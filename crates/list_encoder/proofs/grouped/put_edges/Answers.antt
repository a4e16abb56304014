use Rattle.std.proofs.Common.{List, None, take, sym, subst}
use Rattle.std.proofs.lemmas.List.{take_more}
use Rattle.list_encoder.specs.declared.cell_table.CellEdge.{CellEdge}
use Rattle.list_encoder.specs.Grouped.{PutsEdges}
use Rattle.list_encoder.proofs.Grouping.{puts_more}
use Rattle.list_encoder.proofs.grouped.put_edges.Goals as goal

pub loop-edge-preserved : goal.loop-edge-preserved
loop-edge-preserved c =
    let edges = c.args.edges.now in
    let i = c.loop-edge.edge-index in
    subst (λ (ls : List CellEdge). PutsEdges c.args.groups.now ls c.put_edge.new.groups)
    (sym (take_more edges i (record { from = 0; to = None; sid = 0; hops = 0 }) c.loop-edge-test.true))
    (puts_more c.args.groups.now c.loop-edge.groups c.put_edge.new.groups (take i edges) _ c.loop-edge.invariant c.in_ok-put_edge.ensures)
