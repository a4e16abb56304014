use Rattle.std.proofs.Common.{IfSome, subst}
use Rattle.net_model.specs.NetworkKeeps.{Keeps}
use Rattle.srv6_rules.specs.PacketTerms.{IsContent}
use Rattle.packet_walk.specs.Flight.{Packets, packet_in}
use Rattle.packet_walk.specs.FlightTerms.{IsCounted, IsInFlight}
use Rattle.update_plan.specs.UpdateState.{Update, tables_now}
use Rattle.update_plan.proofs.Placed.{hidden_keeps, packet_fits}
use Rattle.update_plan.proofs.update.Update.keeps_packet.Goals as goal

pub returns-clause-network : goal.returns-clause-network
returns-clause-network c =
    let inside = c.self.inside in
    subst (λ (u : Update). Keeps (tables_now u)) c.self.view_is (hidden_keeps inside.net _ c.keeps_rules.ensures.facts)

pub returns-clause-packet : goal.returns-clause-packet
returns-clause-packet c =
    let inside = c.self.inside in
    subst (λ (u : Update). IfSome (packet_in u.transition.packets.packets c.args.number) (IsInFlight (tables_now u))) c.self.view_is
    (packet_fits inside.net inside.transition c.self.invariant _ c.args.number
    (subst (λ (all : Packets). IfSome (packet_in all.packets c.args.number) IsCounted) c.packets.ensures c.keeps_rules-2.ensures.counted)
    (subst (λ (all : Packets). IfSome (packet_in all.packets c.args.number) (λ p. IsContent p.content)) c.packets.ensures
    c.keeps_rules-2.ensures.content))
