use Rattle.std.proofs.Common.{◌∙◌, ap, sym, subst}
use Rattle.srv6_rules.specs.Packet.{packet_at}
use Rattle.endpoint_chain.specs.Outcomes.{HoldsAlone}
use Rattle.node_stage.specs.FrontedTerms.{FrontedPacket}
use Rattle.node_stage.proofs.ip6_packet.Packet.reserve.Goals as goal

pub invariant_of-self : goal.invariant_of-self
invariant_of-self c = subst (λ xs. HoldsAlone xs) (sym c.reserve_front.ensures.bytes) c.self.invariant

pub returns-clause-packet : goal.returns-clause-packet
returns-clause-packet c = ap packet_at c.reserve_front.ensures.bytes ∙ ap (λ (v : FrontedPacket). v.packet) c.self.view_is
