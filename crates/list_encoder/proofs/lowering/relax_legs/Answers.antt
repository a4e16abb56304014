use Rattle.std.proofs.Common.{◌+◌, ◌||◌, ◌≡◌, ◌++◌, ◌∷◌, [], Bool, List, Vec, Global, Some, None, Option, sym, ap, ◌∙◌, subst}
use Rattle.list_encoder.specs.declared.cell_table.CellEdge.{CellEdge}
use Rattle.list_encoder.specs.CellTable.{Costs, IsCellEdge, IsEdgeInto}
use Rattle.list_encoder.proofs.Relaxing.{LegsSoFar, legs_skip, legs_list, legs_more}
use Rattle.list_encoder.proofs.lowering.relax_legs.Goals as goal
use Rattle.list_encoder.proofs.lowering.relax_legs.Goals.{in-Some+then-to-span+in_ok-push, in-Some+else-to-span, in_default}

pub loop-to-preserved : goal.loop-to-preserved
loop-to-preserved g c =
    let v = g.L.Legs.seen c.args.legs.now in
    let Is : Costs → List CellEdge → Bool → Type 0 =
    λ t edges changed. LegsSoFar v c.args.cells.now c.args.k c.args.span.first c.args.span.later (c.loop-to.to + 1) c.args.table.now t
    c.args.edges.now.items edges
    changed in
    let joined : (t : Costs) (edges : List CellEdge) (changed : Bool) → c.match-edge_into.table ≡ t → c.match-edge_into.edges.items ≡ edges
    → c.match-edge_into.changed ≡ changed → Is t edges changed
    → Is c.match-edge_into.table c.match-edge_into.edges.items c.match-edge_into.changed =
    λ t edges changed e f h is.
    subst (λ (b : Bool). Is c.match-edge_into.table c.match-edge_into.edges.items b) (sym h)
    (subst (λ (xs : List CellEdge). Is c.match-edge_into.table xs changed) (sym f)
    (subst (λ (s : Costs). Is s edges changed) (sym e) is)) in
    let none : c.edge_into.result ≡ None → (edge : CellEdge) → edge.from ≡ c.args.k → edge.to ≡ Some c.loop-to.to
    → ¬ IsCellEdge v c.args.cells.now edge =
    λ e. subst (λ (o : Option CellEdge). IsEdgeInto v c.args.cells.now c.args.k c.loop-to.to o) e c.edge_into.ensures in
    elim c.match-edge_into.branch [
      | in-Some+then-to-span+in_ok-push w ↦
          joined c.loop-to.table (c.loop-to.edges.items ++ w.in-Some.edge ∷ []) c.loop-to.changed w.table-is
          (ap (λ (l : Vec CellEdge Global). l.items) w.edges-is ∙ w.in_ok-push.ensures.items) w.changed-is
          (legs_list v c.args.cells.now c.args.k c.args.span.first c.args.span.later c.loop-to.to c.args.table.now c.loop-to.table
          c.args.edges.now.items c.loop-to.edges.items
          c.loop-to.changed c.requires.within c.loop-to.invariant w.in-Some.edge w.in-Some.ensures.0 w.in-Some.ensures.1 w.in-Some.ensures.2
          w.if-to-span.true)
      | in-Some+else-to-span w ↦
          joined w.relax-lowered.new.table c.loop-to.edges.items (c.loop-to.changed || w.relax-lowered.result) w.table-is
          (ap (λ (l : Vec CellEdge Global). l.items) w.edges-is) (w.changed-is ∙ w.either-changed.ensures)
          (legs_more v c.args.cells.now c.args.k c.args.span.first c.args.span.later c.loop-to.to c.args.table.now c.loop-to.table
          c.args.edges.now.items c.loop-to.edges.items
          c.loop-to.changed c.requires.within c.loop-to.invariant w.in-Some.edge w.relax-lowered.new.table w.relax-lowered.result
          w.in-Some.ensures.0
          w.in-Some.ensures.1 w.in-Some.ensures.2 w.if-to-span.false w.relax-lowered.ensures)
      | in_default w ↦
          joined c.loop-to.table c.loop-to.edges.items c.loop-to.changed w.table-is (ap (λ (l : Vec CellEdge Global). l.items) w.edges-is)
          w.changed-is
          (legs_skip v c.args.cells.now c.args.k c.args.span.first c.args.span.later c.loop-to.to c.args.table.now c.loop-to.table
          c.args.edges.now.items c.loop-to.edges.items
          c.loop-to.changed c.requires.within c.loop-to.invariant (none w.in_default.is))
    ]
