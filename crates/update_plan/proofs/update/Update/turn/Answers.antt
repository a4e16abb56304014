use Rattle.std.proofs.Common.{IfSome, subst}
use Rattle.packet_walk.specs.Flight.{packet_in, stage_in, within}
use Rattle.packet_walk.specs.FlightTerms.{Turns}
use Rattle.update_flight.specs.Interleaving.{own_of}
use Rattle.update_flight.specs.MomentTables.{HasRoute}
use Rattle.update_plan.specs.UpdateState.{Update, tables_after, tables_now, tables_of}
use Rattle.update_plan.specs.UpdateStateTerms.{whole}
use Rattle.update_plan.proofs.Turns.{turn_now, turn_own}
use Rattle.update_plan.proofs.update.Update.turn.Goals as goal

pub returns-clause-turn : goal.returns-clause-turn
returns-clause-turn c =
    let inside = c.self.inside in
    subst (λ (u : Update). IfSome (packet_in u.transition.packets.packets c.args.number) (λ p.
    Turns c.args.number (within (tables_now u) u.transition.packets) p c.turn.result (within (tables_now u) c.turn.new.self.packets)))
    c.self.view_is
    (turn_now inside.net inside.transition c.self.invariant c.args.number c.turn.new.self.packets c.turn.result c.turn.ensures.turn)

pub returns-clause-own : goal.returns-clause-own
returns-clause-own c =
    let inside = c.self.inside in
    let t = inside.transition in
    subst (λ (u : Update). IfSome (packet_in u.transition.packets.packets c.args.number) (λ p.
    HasRoute (stage_in (own_of (tables_of u) u.transition c.args.number) p)
    → Turns c.args.number (within (own_of (tables_of u) u.transition c.args.number) u.transition.packets) p c.turn.result
    (within (own_of (tables_of u) u.transition c.args.number) c.turn.new.self.packets))) c.self.view_is
    (turn_own (tables_after (whole inside.net) t.added t.removed) t c.self.invariant.pass c.keeps_rules.ensures c.args.number
    c.turn.new.self.packets c.turn.result
    (turn_now inside.net t c.self.invariant c.args.number c.turn.new.self.packets c.turn.result c.turn.ensures.turn))
