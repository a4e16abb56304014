use Rattle.std.proofs.Common.{◌+◌, Option, subst, sym, ◌∙◌, refl}
use Rattle.list_encoder.specs.declared.picks.Pick.{Pick}
use Rattle.list_encoder.proofs.SearchCelling.{sid_read}
use Rattle.list_encoder.proofs.Picking.{EndsPicked, ends_pass, ends_add, ends_picked}
use Rattle.list_encoder.proofs.picks.pick_end.Goals as goal
use Rattle.list_encoder.proofs.picks.pick_end.Goals.{in-Some, in_default}

pub loop-sid-preserved : goal.loop-sid-preserved
loop-sid-preserved g c =
    let v = g.L.Legs.seen c.args.legs.now in
    let sid = sid_read c.sids_at-sid-items.result.now c.loop-sid.sid-index c.loop-sid-test.true in
    let Is : Option Pick → Type 0 =
    λ o. EndsPicked v c.args.cells.now c.args.table.now c.args.costed_state c.sids_at-sid-items.result.now (c.loop-sid.sid-index + 1) o in
    elim c.match-finish.branch [
      | in-Some w ↦
          subst Is (sym (w.best-is ∙ w.better-best.ensures))
          (ends_add v c.args.cells.now c.args.table.now c.args.costed_state c.sids_at-sid-items.result.now c.loop-sid.sid-index c.loop-sid.best
          w.pick_edge.result _ c.requires.costed_state sid refl refl (sym c.finish.ensures ∙ w.in-Some.is) c.loop-sid.invariant w.pick_edge.ensures)
      | in_default w ↦
          subst Is (sym w.best-is)
          (ends_pass v c.args.cells.now c.args.table.now c.args.costed_state c.sids_at-sid-items.result.now c.loop-sid.sid-index _ c.loop-sid.best
          c.requires.costed_state sid (sym c.finish.ensures ∙ w.in_default.is) c.loop-sid.invariant)
    ]

pub returns : goal.returns
returns g c =
    ends_picked (g.L.Legs.seen c.args.legs.now) c.steps.ensures.laws c.args.cells.now c.args.table.now c.args.costed_state
    c.sids_at-sid-items.result.now
    c.steps.result c.loop-sid.sid-index c.loop-sid.best c.steps.ensures.value c.sids_at-sid-items.ensures c.loop-sid-test.false
    c.loop-sid.invariant
