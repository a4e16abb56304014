use Rattle.std.proofs.Common.{◌≡◌, ℕ, [], sym, ◌∙◌, ap, subst, Some}
use Rattle.list_pack.specs.declared.types.Shape.{Shape}
use Rattle.list_pack.specs.Costs.{move_cost}
use Rattle.list_certificate.specs.Tests.{Tells}
use Rattle.list_certificate.proofs.MovesPassing.{room_is}
use Rattle.list_certificate.proofs.CertificatePathing.{edge_stands}
use Rattle.list_certificate.proofs.path_lines.edge_by.Goals as goal

pub returns : goal.returns
returns g c =
    let v = g.L.Legs.seen c.args.legs.now in
    let same = subst (Tells (c.shape-next.result.prefix ≡ c.args.step.now.prefix)) c.if-not-is_same.false c.is_same.ensures in
    edge_stands v c.steps.ensures.laws c.args.state c.args.step.now c.args.to c.args.n c.in_ok-room.room c.in_ok-leg.leg c.move_cost.result
    c.requires.state
    (sym (ap (λ (s : Shape). s.prefix) c.shape-next.ensures) ∙ same) (sym c.leg.ensures ∙ c.in_ok-leg.was) c.if-leg-to.false
    (room_is v [] c.args.state c.args.n c.args.step.now.stays c.args.from.now c.shape-next.result c.room_behind.result
    (Some c.in_ok-room.room) c.requires.from c.shape-next.ensures (sym c.is_barred.ensures ∙ c.if-is_barred.false)
    c.room_behind.ensures c.in_ok-room.was)
    (c.move_cost.ensures ∙ ap (λ (x : ℕ). move_cost x c.args.step.now.stays c.in_ok-leg.leg.hops) c.sid_cost.ensures)
