use Rattle.std.proofs.Common.{◌∙◌, sym, arith}
use Rattle.srv6_rules.specs.ChainTerms.{place_behind}
use Rattle.srv6_rules.specs.Packet.{packet_at}
use Rattle.ip6_headers.specs.ChainStepping.{header_at, place_view}
use Rattle.ip6_headers.proofs.PublicLaws.{holds_spellable}
use Rattle.end_behaviours.proofs.FoundLemmas.{found_passed, found_step, found_last}
use Rattle.end_behaviours.proofs.end_headers.found_at_segments.Goals as goal

pub returns-then-not-is_last : goal.returns-then-not-is_last
returns-then-not-is_last c =
    let s = c.args.sid.now in
    let p = packet_at c.args.bytes.now in
    let h = header_at c.args.place c.args.header.now in
    λ first rest later. found_step s p h c.requires.unshifted c.requires.routing first (rest (place_behind h)) c.requires.lies
    c.requires.stands later (sym c.is_last.ensures ∙ c.if-not-is_last.true)

pub returns-then-not-sid : goal.returns-then-not-sid
returns-then-not-sid c =
    let s = c.args.sid.now in
    let p = packet_at c.args.bytes.now in
    let h = header_at c.args.place c.args.header.now in
    found_passed s p h c.requires.unshifted c.requires.routing c.if-not-sid.true (sym c.is_last.ensures ∙ c.if-not-is_last.false)

pub behind-requires-clause-fits : goal.behind-requires-clause-fits
behind-requires-clause-fits c =
    let within = c.requires.lies.within in
    let short = (holds_spellable c.args.bytes.now c.requires.packet).payload_len in
    omega arith

pub returns : goal.returns
returns c =
    let s = c.args.sid.now in
    let p = packet_at c.args.bytes.now in
    let h = header_at c.args.place c.args.header.now in
    λ first rest later. found_last s p h c.requires.unshifted c.requires.routing first rest (place_view c.behind.result) c.requires.lies
    c.requires.stands later c.if-not-sid.false (sym c.is_last.ensures ∙ c.if-not-is_last.false) c.behind.ensures
