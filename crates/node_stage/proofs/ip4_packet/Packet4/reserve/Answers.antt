use Rattle.std.proofs.Common.{◌∙◌, ap, sym, subst}
use Rattle.srv6_rules.specs.Packet4.{packet4_at}
use Rattle.node_stage.specs.Alone4.{HoldsAlone4}
use Rattle.node_stage.specs.FrontedTerms.{FrontedPacket4}
use Rattle.node_stage.proofs.ip4_packet.Packet4.reserve.Goals as goal

pub invariant_of-self : goal.invariant_of-self
invariant_of-self c = subst (λ xs. HoldsAlone4 xs) (sym c.reserve_front.ensures.bytes) c.self.invariant

pub returns-clause-packet : goal.returns-clause-packet
returns-clause-packet c = ap packet4_at c.reserve_front.ensures.bytes ∙ ap (λ (v : FrontedPacket4). v.packet) c.self.view_is
