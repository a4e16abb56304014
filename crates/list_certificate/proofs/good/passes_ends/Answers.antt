use Rattle.std.proofs.Common.{Bool, true, false, get_or, sym, ◌∙◌, subst}
use Rattle.std.proofs.lemmas.Option.{slice_get-get_or}
use Rattle.list_certificate.specs.Tests.{PassesLast, move_of, Tells}
use Rattle.list_certificate.proofs.MovesPassing.{both_stays, ends_more, ends_by, ends_all}
use Rattle.list_certificate.proofs.good.passes_ends.Goals as goal
use Rattle.list_certificate.proofs.good.passes_ends.Goals.{in-Some+else-not-passes_last+else-not-passes_last-2, in_default}

pub loop-n-preserved : goal.loop-n-preserved
loop-n-preserved g c =
    let v = g.L.Legs.seen c.args.legs.now in
    let lines = c.args.lines.now in
    let s = c.args.costed_state.now.state in
    let sids = c.sids_at-n-items.result.now in
    let n = get_or sids c.loop-n.n-index 0 in
    let here = slice_get-get_or sids c.loop-n.n-index 0 c.loop-n-test.true in
    elim c.match-finish.branch [
      | in-Some+else-not-passes_last+else-not-passes_last-2 w ↦
          ends_more v lines s sids c.loop-n.n-index n here
          (both_stays (λ (b : Bool). PassesLast v lines s (move_of n b))
          (subst (Tells (PassesLast v lines s (move_of n true))) w.if-not-passes_last.false w.passes_last.ensures)
          (subst (Tells (PassesLast v lines s (move_of n false))) w.if-not-passes_last-2.false
          w.passes_last-in-Some.ensures)) c.loop-n.invariant
      | in_default w ↦
          ends_more v lines s sids c.loop-n.n-index n here (ends_by v lines s n (sym c.finish.ensures ∙ w.in_default.is)) c.loop-n.invariant
    ]

pub returns : goal.returns
returns g c =
    ends_all (g.L.Legs.seen c.args.legs.now) c.args.lines.now c.args.costed_state.now.state c.steps.ensures.laws c.sids_at-n-items.result.now
    c.steps.result
    c.loop-n.n-index c.steps.ensures.value c.sids_at-n-items.ensures c.loop-n-test.false c.loop-n.invariant
