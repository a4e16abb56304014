use Rattle.std.proofs.Common.{subst, sym}
use Rattle.srv6_rules.specs.Packet.{entered as entered_as}
use Rattle.walk_rules.specs.Relation.{IsPlace}
use Rattle.node_stage.specs.Fronted.{fronted}
use Rattle.packet_walk.specs.Flight.{InFlight, entering}
use Rattle.update_plan.specs.UpdateState.{Update}
use Rattle.update_plan.proofs.Turns.{enter_kept}
use Rattle.update_plan.proofs.update.Update.enter.Goals as goal

pub invariant_of-self : goal.invariant_of-self
invariant_of-self c =
    let inside = c.self.inside in
    let place : IsPlace inside.net c.args.place =
    subst (λ (u : Update). IsPlace u.joined c.args.place) (sym c.self.view_is) c.requires.place in
    let old : InFlight =
    entering (fronted (entered_as c.args.place.family c.args.old.bytes) c.args.old.front) c.args.place c.args.choices.now in
    let new : InFlight =
    entering (fronted (entered_as c.args.place.family c.args.new.bytes) c.args.new.front) c.args.place c.args.choices.now in
    enter_kept inside.net inside.transition c.self.invariant old new c.enter.result c.enter.new.self place place c.enter.ensures
