use Rattle.std.proofs.Common.{◌≡◌, ℕ, get_or, sym, ◌∙◌, ap, subst}
use Rattle.std.proofs.lemmas.Option.{slice_get-get_or, same_Some, none-some}
use Rattle.list_pack.specs.declared.types.Leg.{Leg}
use Rattle.list_certificate.specs.Tests.{PassesMove, move_of, state_in, Assures, CellPassesLeg}
use Rattle.list_certificate.proofs.MovesPassing.{legs_more, legs_all_to}
use Rattle.list_certificate.proofs.all_pass.pass_legs_to.Goals as goal
use Rattle.list_certificate.proofs.all_pass.pass_legs_to.Goals.{in-Some+then-leg-to+else-not-pass_leg, in-Some+else-leg-to, in_default}

pub loop-n-preserved : goal.loop-n-preserved
loop-n-preserved g c =
    let v = g.L.Legs.seen c.args.legs.now in
    let lines = c.args.lines.now in
    let cell = c.args.cell.now in
    let sids = c.sids_at-n-items.result.now in
    let n = get_or sids c.loop-n.n-index 0 in
    let here = slice_get-get_or sids c.loop-n.n-index 0 c.loop-n-test.true in
    elim c.match-leg.branch [
      | in-Some+then-leg-to+else-not-pass_leg w ↦
          let all : CellPassesLeg v lines cell w.cell_of-next.result.sid =
          subst (Assures (CellPassesLeg v lines cell w.cell_of-next.result.sid)) w.if-not-pass_leg.false w.pass_leg.ensures in
          λ room few.
          legs_more v lines (state_in cell room) c.args.to sids c.loop-n.n-index n here
          (λ leg stays e l.
          subst (λ (x : ℕ). PassesMove v lines (state_in cell room) (move_of x stays)) w.cell_of-next.ensures.sid (all room stays few))
          (c.loop-n.invariant room few)
      | in-Some+else-leg-to w ↦
          λ room few.
          legs_more v lines (state_in cell room) c.args.to sids c.loop-n.n-index n here
          (λ leg stays e l.
          let same : leg ≡ w.in-Some.leg = same_Some leg w.in-Some.leg (sym e ∙ sym c.leg.ensures ∙ w.in-Some.is) in
          absurd (w.if-leg-to.false (sym (ap (λ (x : Leg). x.to) same) ∙ l))) (c.loop-n.invariant room few)
      | in_default w ↦
          λ room few.
          legs_more v lines (state_in cell room) c.args.to sids c.loop-n.n-index n here
          (λ leg stays e l. absurd (none-some leg (sym w.in_default.is ∙ c.leg.ensures ∙ e))) (c.loop-n.invariant room few)
    ]

pub returns : goal.returns
returns g c =
    λ room few.
    legs_all_to (g.L.Legs.seen c.args.legs.now) c.args.lines.now (state_in c.args.cell.now room) c.steps.ensures.laws c.args.to
    c.sids_at-n-items.result.now
    c.loop-n.n-index c.sids_at-n-items.ensures c.loop-n-test.false (c.loop-n.invariant room few)
