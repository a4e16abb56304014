use Rattle.std.proofs.Common.{◌≡◌, ℕ, Bool, true, false, get_or, sym, ◌∙◌, ap, subst}
use Rattle.std.proofs.lemmas.Option.{slice_get-get_or, same_Some, none-some}
use Rattle.list_pack.specs.declared.types.Leg.{Leg}
use Rattle.list_certificate.specs.Tests.{PassesMove, move_of, Tells}
use Rattle.list_certificate.proofs.MovesPassing.{both_stays, legs_more, legs_all_to}
use Rattle.list_certificate.proofs.good.passes_legs_to.Goals as goal
use Rattle.list_certificate.proofs.good.passes_legs_to.Goals.{in-Some+then-leg-to+else-not-passes_move+else-not-passes_move-2, in-Some+else-leg-to, in_default}

pub loop-n-preserved : goal.loop-n-preserved
loop-n-preserved g c =
    let v = g.L.Legs.seen c.args.legs.now in
    let lines = c.args.lines.now in
    let s = c.args.costed_state.now.state in
    let sids = c.sids_at-n-items.result.now in
    let n = get_or sids c.loop-n.n-index 0 in
    let here = slice_get-get_or sids c.loop-n.n-index 0 c.loop-n-test.true in
    elim c.match-leg.branch [
      | in-Some+then-leg-to+else-not-passes_move+else-not-passes_move-2 w ↦
          legs_more v lines s c.args.to sids c.loop-n.n-index n here
          (λ leg stays e l.
          let next = w.cell_of-next.result.sid in
          subst (λ (x : ℕ). PassesMove v lines s (move_of x stays)) w.cell_of-next.ensures.sid
          (both_stays (λ (b : Bool). PassesMove v lines s (move_of next b))
          (subst (Tells (PassesMove v lines s (move_of next true))) w.if-not-passes_move.false w.passes_move.ensures)
          (subst (Tells (PassesMove v lines s (move_of next false))) w.if-not-passes_move-2.false
          w.passes_move-then-leg-to.ensures) stays)) c.loop-n.invariant
      | in-Some+else-leg-to w ↦
          legs_more v lines s c.args.to sids c.loop-n.n-index n here
          (λ leg stays e l.
          let same : leg ≡ w.in-Some.leg = same_Some leg w.in-Some.leg (sym e ∙ sym c.leg.ensures ∙ w.in-Some.is) in
          absurd (w.if-leg-to.false (sym (ap (λ (x : Leg). x.to) same) ∙ l))) c.loop-n.invariant
      | in_default w ↦
          legs_more v lines s c.args.to sids c.loop-n.n-index n here
          (λ leg stays e l. absurd (none-some leg (sym w.in_default.is ∙ c.leg.ensures ∙ e))) c.loop-n.invariant
    ]

pub returns : goal.returns
returns g c =
    legs_all_to (g.L.Legs.seen c.args.legs.now) c.args.lines.now c.args.costed_state.now.state c.steps.ensures.laws c.args.to
    c.sids_at-n-items.result.now
    c.loop-n.n-index c.sids_at-n-items.ensures c.loop-n-test.false c.loop-n.invariant
