use Rattle.std.proofs.Common.{subst, sym, IfSome}
use Rattle.packet_walk.specs.Flight.{packet_in, stage_in, within}
use Rattle.packet_walk.specs.FlightTerms.{IsNumber, Turns}
use Rattle.update_flight.specs.MomentTables.{HasRoute}
use Rattle.update_flight.specs.Transition.{Transition}
use Rattle.update_flight.specs.TransitionTerms.{transition_value}
use Rattle.update_flight.proofs.PassingPassed.{own_turn, passed_after}
use Rattle.update_flight.proofs.transition.Transition.turn.Goals as goal

pub invariant_of-self : goal.invariant_of-self
invariant_of-self c =
    let inside = c.self.inside in
    let t : Transition = transition_value inside.added.items inside.removed.items inside.done inside.early inside.packets in
    passed_after c.args.net.now c.args.number inside.passed t c.turn.new.self c.turn.result c.self.invariant
    (subst (λ (u : Transition). IsNumber u.packets.packets c.args.number) (sym c.self.view_is) c.requires.given) c.turn.ensures.turn

pub returns-clause-own : goal.returns-clause-own
returns-clause-own c = λ own keeps.
    subst (λ (u : Transition). IfSome (packet_in u.packets.packets c.args.number) (λ p. HasRoute (stage_in own p)
    → Turns c.args.number (within own u.packets) p c.turn.result (within own c.turn.new.self))) c.self.view_is
    (own_turn own c.args.net.now keeps c.args.number c.self.inside.packets c.turn.new.self c.turn.result c.turn.ensures.turn)
