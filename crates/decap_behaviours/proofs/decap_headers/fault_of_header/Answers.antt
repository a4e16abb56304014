use Rattle.std.proofs.Common.{◌∙◌}
use Rattle.srv6_rules.specs.Packet.{packet_at}
use Rattle.srv6_rules.specs.Endpoint.{at_sid_routing}
use Rattle.ip6_headers.specs.ChainStepping.{header_at}
use Rattle.decap_behaviours.proofs.HeaderLemmas.{header_kind, header_routing}
use Rattle.decap_behaviours.proofs.decap_headers.fault_of_header.Goals as goal

pub returns-then-place-eq-ROUTING : goal.returns-then-place-eq-ROUTING
returns-then-place-eq-ROUTING c =
    let s = c.args.sid.now in
    let p = packet_at c.args.packet.now in
    let h = header_at c.args.place c.args.header.now in
    λ rest. header_routing s p h rest c.requires.next c.if-place-eq-ROUTING.true ∙ c.routing_fault.ensures rest

pub returns : goal.returns
returns c =
    let s = c.args.sid.now in
    let p = packet_at c.args.packet.now in
    let h = header_at c.args.place c.args.header.now in
    λ rest. header_kind s p h rest c.requires.next ∙ c.header_fault.ensures (at_sid_routing s p) rest
