use Rattle.std.proofs.Common.{◌≡◌, List, length, vec_len, sym, ◌∙◌, subst}
use Rattle.std.proofs.lemmas.Bool.{eqb-true}
use Rattle.list_encoder.specs.declared.cell_table.CellEdge.{CellEdge}
use Rattle.list_encoder.specs.Grouped.{Groups, AreGrouped}
use Rattle.list_encoder.specs.Settling.{LeadToCells, SettlesAll}
use Rattle.list_encoder.proofs.Settling.{settles_bare, settles, lead_to_cells}
use Rattle.list_encoder.proofs.least_costs.settle.Goals as goal

pub returns-then-is_empty : goal.returns-then-is_empty
returns-then-is_empty g c =
    let few : vec_len c.in_ok-edges.edges ≡ 0 =
    eqb-true (vec_len c.in_ok-edges.edges) 0 (sym c.is_empty.ensures ∙ c.if-is_empty.true) in
    let none : length c.in_ok-edges.edges.items ≡ 0 = cc in
    settles_bare (g.L.Legs.seen c.args.legs.now) c.args.cells.now c.args.span.first c.args.span.later c.args.table.now c.gather.new.table
    c.in_ok-edges.edges.items none c.in_ok-edges.ensures

pub settle_waiting-requires-clause-edges : goal.settle_waiting-requires-clause-edges
settle_waiting-requires-clause-edges g c =
    let v = g.L.Legs.seen c.args.legs.now in
    let grouped : AreGrouped c.in_ok-edges.edges.items c.args.span.later c.in_ok-into.into.items =
    subst (λ (ls : List CellEdge). AreGrouped ls c.args.span.later c.in_ok-into.into.items) c.as_slice.ensures.value c.in_ok-into.ensures in
    subst (λ (gs : Groups). LeadToCells v c.args.cells.now gs) (sym c.as_slice-2.ensures.value)
    (lead_to_cells v c.args.cells.now c.args.span.later c.in_ok-edges.edges.items c.in_ok-into.into.items c.in_ok-edges.ensures.are grouped)

pub returns : goal.returns
returns g c =
    let v = g.L.Legs.seen c.args.legs.now in
    let grouped : AreGrouped c.in_ok-edges.edges.items c.args.span.later c.in_ok-into.into.items =
    subst (λ (ls : List CellEdge). AreGrouped ls c.args.span.later c.in_ok-into.into.items) c.as_slice.ensures.value c.in_ok-into.ensures in
    settles v c.args.cells.now c.args.span.first c.args.span.later c.args.table.now c.gather.new.table c.settle_waiting.new.table
    c.in_ok-edges.edges.items c.in_ok-into.into.items c.in_ok-edges.ensures grouped
    (subst (λ (gs : Groups). SettlesAll v c.args.cells.now gs c.gather.new.table c.settle_waiting.new.table) c.as_slice-2.ensures.value
    c.in_ok-settle_waiting.ensures)
