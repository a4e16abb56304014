use Rattle.std.proofs.Common.{subst}
use Rattle.srv6_rules.specs.Packet4.{IsSpellable4}
use Rattle.node_stage.specs.FrontedTerms.{FrontedPacket4}
use Rattle.ip6_headers.proofs.PublicLaws.{holds4_spellable}
use Rattle.node_stage.proofs.ip4_packet.Packet4.keeps_rules.Goals as goal

pub returns : goal.returns
returns c =
    subst (λ (v : FrontedPacket4). IsSpellable4 v.packet) c.self.view_is (holds4_spellable c.self.inside.bytes.bytes c.self.invariant.holds)
