use Rattle.std.proofs.Common.{◌+◌, ◌||◌, Bool, sym, ◌∙◌, refl, subst}
use Rattle.list_encoder.specs.CellTable.{Costs}
use Rattle.list_encoder.proofs.SearchCelling.{cell_read, sid_read}
use Rattle.list_encoder.proofs.Relaxing.{EndsSoFar, ends_skip, ends_more, ends_all}
use Rattle.list_encoder.proofs.lowering.relax_ends.Goals as goal
use Rattle.list_encoder.proofs.lowering.relax_ends.Goals.{in-Some, in_default}

pub loop-sid-preserved : goal.loop-sid-preserved
loop-sid-preserved g c =
    let v = g.L.Legs.seen c.args.legs.now in
    let here = cell_read c.args.cells.now c.args.k c.requires.within in
    let sid = sid_read c.sids_at-sid-items.result.now c.loop-sid.sid-index c.loop-sid-test.true in
    let count = c.loop-sid.sid-index + 1 in
    elim c.match-finish.branch [
      | in-Some w ↦
          subst (λ (b : Bool). EndsSoFar v c.args.cells.now c.args.k c.args.table.now c.match-finish.table c.sids_at-sid-items.result.now
          count b)
          (sym (w.changed-is ∙ w.either-changed.ensures))
          (subst (λ (t : Costs). EndsSoFar v c.args.cells.now c.args.k c.args.table.now t c.sids_at-sid-items.result.now count
          (c.loop-sid.changed || w.relax-lowered.result)) (sym w.table-is)
          (ends_more v c.args.cells.now c.args.k c.args.table.now c.loop-sid.table w.relax-lowered.new.table c.sids_at-sid-items.result.now
          c.loop-sid.sid-index c.loop-sid.changed w.relax-lowered.result _ _ here sid refl refl (sym c.finish.ensures ∙ w.in-Some.is)
          c.loop-sid.invariant w.relax-lowered.ensures))
      | in_default w ↦
          subst (λ (b : Bool). EndsSoFar v c.args.cells.now c.args.k c.args.table.now c.match-finish.table c.sids_at-sid-items.result.now
          count b)
          (sym w.changed-is)
          (subst (λ (t : Costs). EndsSoFar v c.args.cells.now c.args.k c.args.table.now t c.sids_at-sid-items.result.now count
          c.loop-sid.changed)
          (sym w.table-is)
          (ends_skip v c.args.cells.now c.args.k c.args.table.now c.loop-sid.table c.sids_at-sid-items.result.now c.loop-sid.sid-index _
          c.loop-sid.changed _ here sid (sym c.finish.ensures ∙ w.in_default.is) c.loop-sid.invariant))
    ]

pub returns : goal.returns
returns g c =
    ends_all (g.L.Legs.seen c.args.legs.now) c.steps.ensures.laws c.args.cells.now c.args.k c.args.table.now c.loop-sid.table
    c.sids_at-sid-items.result.now c.steps.result c.loop-sid.sid-index c.loop-sid.changed c.steps.ensures.value c.sids_at-sid-items.ensures
    c.loop-sid-test.false c.loop-sid.invariant
