use Rattle.std.proofs.Common.{List, sym, subst}
use Rattle.list_encoder.specs.declared.cell_table.CellEdge.{CellEdge}
use Rattle.list_encoder.proofs.Relaxing.{GatheredSoFar, gathered_none, gathered_more, gathered_all}
use Rattle.list_encoder.proofs.lowering.gather.Goals as goal

pub loop-k-init : goal.loop-k-init
loop-k-init g c =
    let v = g.L.Legs.seen c.args.legs.now in
    let cells = c.args.cells.now in
    let span = c.args.span in
    let t = c.args.table.now in
    subst (λ (edges : List CellEdge). GatheredSoFar v cells span.first span.later span.first t t edges) (sym c.new-edges.ensures.items)
    (gathered_none v cells span.first span.later t c.requires.sound)

pub loop-k-preserved : goal.loop-k-preserved
loop-k-preserved g c =
    gathered_more (g.L.Legs.seen c.args.legs.now) c.args.cells.now c.args.span.first c.args.span.later c.loop-k.k c.args.table.now
    c.loop-k.table c.relax_ends.new.table c.relax_legs.new.table c.loop-k.edges.items c.relax_legs.new.edges.items c.relax_ends.result
    c.in_ok-relax_legs.field-0
    c.loop-k-test.true
    c.loop-k.invariant c.relax_ends.ensures c.in_ok-relax_legs.ensures

pub returns : goal.returns
returns g c =
    gathered_all (g.L.Legs.seen c.args.legs.now) c.args.cells.now c.args.span.first c.args.span.later c.loop-k.k c.args.table.now
    c.loop-k.table c.loop-k.edges.items c.loop-k.invariant c.loop-k-test.false
