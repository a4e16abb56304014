use Rattle.std.proofs.Common.{get_or, sym, ◌∙◌, subst}
use Rattle.std.proofs.lemmas.Option.{slice_get-get_or}
use Rattle.list_certificate.specs.Tests.{state_in, Assures, CellPassesFinish}
use Rattle.list_certificate.proofs.MovesPassing.{ends_more, ends_by, ends_all}
use Rattle.list_certificate.proofs.all_pass.pass_ends.Goals as goal
use Rattle.list_certificate.proofs.all_pass.pass_ends.Goals.{in-Some+else-not-pass_finish, in_default}

pub loop-n-preserved : goal.loop-n-preserved
loop-n-preserved g c =
    let v = g.L.Legs.seen c.args.legs.now in
    let lines = c.args.lines.now in
    let cell = c.args.cell.now in
    let sids = c.sids_at-n-items.result.now in
    let n = get_or sids c.loop-n.n-index 0 in
    let here = slice_get-get_or sids c.loop-n.n-index 0 c.loop-n-test.true in
    elim c.match-finish.branch [
      | in-Some+else-not-pass_finish w ↦
          let all : CellPassesFinish v lines cell n =
          subst (Assures (CellPassesFinish v lines cell n)) w.if-not-pass_finish.false w.pass_finish.ensures in
          λ room few.
          ends_more v lines (state_in cell room) sids c.loop-n.n-index n here (λ stays. all room stays few) (c.loop-n.invariant room few)
      | in_default w ↦
          λ room few.
          ends_more v lines (state_in cell room) sids c.loop-n.n-index n here
          (ends_by v lines (state_in cell room) n (sym c.finish.ensures ∙ w.in_default.is)) (c.loop-n.invariant room few)
    ]

pub returns : goal.returns
returns g c =
    λ room few.
    ends_all (g.L.Legs.seen c.args.legs.now) c.args.lines.now (state_in c.args.cell.now room) c.steps.ensures.laws
    c.sids_at-n-items.result.now
    c.steps.result
    c.loop-n.n-index c.steps.ensures.value c.sids_at-n-items.ensures c.loop-n-test.false (c.loop-n.invariant room few)
