use Rattle.std.proofs.Common.{subst, sym}
use Rattle.walk_rules.specs.Relation.{IsPlace}
use Rattle.packet_walk.specs.Flight.{InFlight, entering}
use Rattle.update_plan.specs.UpdateState.{Update}
use Rattle.update_plan.proofs.Turns.{enter_kept}
use Rattle.update_plan.proofs.update.Update.enter_content.Goals as goal

pub invariant_of-self : goal.invariant_of-self
invariant_of-self c =
    let inside = c.self.inside in
    let place : IsPlace inside.net c.args.place =
    subst (λ (u : Update). IsPlace u.joined c.args.place) (sym c.self.view_is) c.requires.place in
    let p : InFlight = entering c.args.content c.args.place c.args.choices.now in
    enter_kept inside.net inside.transition c.self.invariant p p c.enter_content.result c.enter_content.new.self place place
    c.enter_content.ensures
