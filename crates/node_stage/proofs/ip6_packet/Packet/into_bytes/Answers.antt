use Rattle.std.proofs.Common.{◌∙◌, ap}
use Rattle.srv6_rules.specs.Packet.{spelling}
use Rattle.endpoint_chain.proofs.PublicLaws.{alone_spelled}
use Rattle.node_stage.specs.FrontedTerms.{FrontedPacket}
use Rattle.node_stage.proofs.ip6_packet.Packet.into_bytes.Goals as goal

pub returns-clause-spelled : goal.returns-clause-spelled
returns-clause-spelled c =
    alone_spelled c.self.inside.bytes.bytes c.self.invariant ∙ ap (λ (v : FrontedPacket). spelling v.packet) c.self.view_is
