use Rattle.std.proofs.Common.{◌∙◌, arith}
use Rattle.srv6_rules.specs.Packet.{packet_at}
use Rattle.ip6_headers.specs.ChainStepping.{header_at}
use Rattle.ip6_headers.proofs.PublicLaws.{holds_spellable}
use Rattle.end_behaviours.proofs.FoundLemmas.{routing_unknown, unknown_near}
use Rattle.end_behaviours.proofs.end_headers.found_at_routing.Goals as goal

pub unknown_routing_fault-requires-clause-fits : goal.unknown_routing_fault-requires-clause-fits
unknown_routing_fault-requires-clause-fits c =
    let within = c.requires.lies.within in
    let short = (holds_spellable c.args.bytes.now c.requires.packet).payload_len in
    omega arith

pub returns-then-header-ne-SEGMENT_ROUTING : goal.returns-then-header-ne-SEGMENT_ROUTING
returns-then-header-ne-SEGMENT_ROUTING c =
    let s = c.args.sid.now in
    let p = packet_at c.args.bytes.now in
    let h = header_at c.args.place c.args.header.now in
    let within = c.requires.lies.within in
    let short = (holds_spellable c.args.bytes.now c.requires.packet).payload_len in
    c.refused.ensures s p h
    (λ rest. routing_unknown s p h rest c.requires.unshifted c.requires.routing c.if-header-ne-SEGMENT_ROUTING.true
    ∙ c.unknown_routing_fault.ensures rest)
    (unknown_near h c.unknown_routing_fault.result c.requires.lies.least (omega arith) c.unknown_routing_fault.ensures)
