use Rattle.std.proofs.Common.{◌≡◌, ◌+◌, Option, Some, None, subst, sym, ◌∙◌}
use Rattle.list_encoder.specs.declared.picks.Pick.{Pick}
use Rattle.list_encoder.specs.declared.cell_table.CellEdge.{CellEdge}
use Rattle.list_encoder.specs.CellTable.{IsCellEdge, IsEdgeInto}
use Rattle.list_encoder.proofs.Picking.{LegsPicked, legs_pass, legs_add, legs_picked}
use Rattle.list_encoder.proofs.picks.pick_leg.Goals as goal
use Rattle.list_encoder.proofs.picks.pick_leg.Goals.{in-Some, in_default}

pub loop-to-preserved : goal.loop-to-preserved
loop-to-preserved g c =
    let v = g.L.Legs.seen c.args.legs.now in
    let Is : Option Pick → Type 0 = λ o. LegsPicked v c.args.cells.now c.args.table.now c.args.costed_state (c.loop-to.to + 1) o in
    let none : c.edge_into.result ≡ None → (edge : CellEdge) → edge.from ≡ c.args.costed_state.place → edge.to ≡ Some c.loop-to.to
    → ¬ IsCellEdge v c.args.cells.now edge =
    λ e. subst (λ (o : Option CellEdge). IsEdgeInto v c.args.cells.now c.args.costed_state.place c.loop-to.to o) e c.edge_into.ensures in
    elim c.match-edge_into.branch [
      | in-Some w ↦
          subst Is (sym (w.best-is ∙ w.better-best.ensures))
          (legs_add v c.args.cells.now c.args.table.now c.args.costed_state c.loop-to.to c.loop-to.best w.pick_edge.result w.in-Some.edge
          w.in-Some.ensures.0
          w.in-Some.ensures.1 w.in-Some.ensures.2 c.loop-to.invariant w.pick_edge.ensures)
      | in_default w ↦
          subst Is (sym w.best-is)
          (legs_pass v c.args.cells.now c.args.table.now c.args.costed_state c.loop-to.to c.loop-to.best (none w.in_default.is) c.loop-to.invariant)
    ]

pub returns : goal.returns
returns g c =
    legs_picked (g.L.Legs.seen c.args.legs.now) c.args.cells.now c.args.table.now c.args.costed_state c.loop-to.to c.loop-to.best
    c.loop-to-test.false
    c.loop-to.invariant
