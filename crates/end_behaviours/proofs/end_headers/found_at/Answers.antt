use Rattle.std.proofs.Common.{◌≡◌, ◌∙◌, ◌&&◌, true, false, not, sym, ap, arith}
use Rattle.srv6_rules.specs.ChainTerms.{place_behind}
use Rattle.srv6_rules.specs.Endpoint.{at_sid_routing, is_options, shifts_at}
use Rattle.srv6_rules.specs.Packet.{packet_at}
use Rattle.ip6_headers.specs.ChainStepping.{header_at}
use Rattle.ip6_headers.proofs.PublicLaws.{holds_spellable}
use Rattle.end_behaviours.proofs.FoundLemmas.{header_shifts, header_unshifted, other_near, routing_shifts}
use Rattle.end_behaviours.proofs.end_headers.found_at.Goals as goal

pub returns-then-shifts_in_front : goal.returns-then-shifts_in_front
returns-then-shifts_in_front c =
    let s = c.args.sid.now in
    let p = packet_at c.args.bytes.now in
    let h = header_at c.args.place c.args.header.now in
    let here : (shifts_at s p && not (is_options h)) ≡ true =
    ap (λ b. b && not (is_options h)) (sym c.requires.shifts) ∙ sym (c.shifts_in_front.ensures c.args.header.now)
    ∙ c.if-shifts_in_front.true in
    let is = header_shifts s p h here in
    λ first rest later. (is.0, is.1 (rest (place_behind h)))

pub found_at_routing-requires-clause-unshifted : goal.found_at_routing-requires-clause-unshifted
found_at_routing-requires-clause-unshifted c =
    let s = c.args.sid.now in
    let p = packet_at c.args.bytes.now in
    let h = header_at c.args.place c.args.header.now in
    let here : (shifts_at s p && not (is_options h)) ≡ false =
    ap (λ b. b && not (is_options h)) (sym c.requires.shifts) ∙ sym (c.shifts_in_front.ensures c.args.header.now)
    ∙ c.if-shifts_in_front.false in
    routing_shifts s p h here c.if-place-eq-ROUTING.true

pub header_fault-requires-clause-fits : goal.header_fault-requires-clause-fits
header_fault-requires-clause-fits c =
    let within = c.requires.lies.within in
    let short = (holds_spellable c.args.bytes.now c.requires.packet).payload_len in
    omega arith

pub returns : goal.returns
returns c =
    let s = c.args.sid.now in
    let p = packet_at c.args.bytes.now in
    let h = header_at c.args.place c.args.header.now in
    let within = c.requires.lies.within in
    let short = (holds_spellable c.args.bytes.now c.requires.packet).payload_len in
    let here : (shifts_at s p && not (is_options h)) ≡ false =
    ap (λ b. b && not (is_options h)) (sym c.requires.shifts) ∙ sym (c.shifts_in_front.ensures c.args.header.now)
    ∙ c.if-shifts_in_front.false in
    c.refused.ensures s p h (λ rest. header_unshifted s p h rest here ∙ c.header_fault.ensures (at_sid_routing s p) rest)
    (other_near (at_sid_routing s p) p h c.header_fault.result c.requires.lies c.requires.stands (omega arith) c.if-place-eq-ROUTING.false
    (c.header_fault.ensures (at_sid_routing s p)))
