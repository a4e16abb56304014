use Rattle.std.proofs.Common.{◌∙◌, ap}
use Rattle.srv6_rules.specs.Packet4.{spelling4}
use Rattle.node_stage.specs.FrontedTerms.{FrontedPacket4}
use Rattle.node_stage.proofs.ReadingLemmas4.{alone4_spelled}
use Rattle.node_stage.proofs.ip4_packet.Packet4.into_bytes.Goals as goal

pub returns-clause-spelled : goal.returns-clause-spelled
returns-clause-spelled c =
    alone4_spelled c.self.inside.bytes.bytes c.self.invariant ∙ ap (λ (v : FrontedPacket4). spelling4 v.packet) c.self.view_is
