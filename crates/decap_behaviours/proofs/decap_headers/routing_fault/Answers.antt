use Rattle.std.proofs.Common.{◌∙◌}
use Rattle.srv6_rules.specs.Packet.{packet_at}
use Rattle.ip6_headers.specs.ChainStepping.{header_at}
use Rattle.decap_behaviours.proofs.HeaderLemmas.{routing_unknown}
use Rattle.decap_behaviours.proofs.decap_headers.routing_fault.Goals as goal

pub returns-then-header-ne-SEGMENT_ROUTING : goal.returns-then-header-ne-SEGMENT_ROUTING
returns-then-header-ne-SEGMENT_ROUTING c =
    let s = c.args.sid.now in
    let p = packet_at c.args.packet.now in
    let h = header_at c.args.place c.args.header.now in
    λ rest. routing_unknown s p h rest c.requires.routing c.if-header-ne-SEGMENT_ROUTING.true ∙ c.unknown_routing_fault.ensures rest
