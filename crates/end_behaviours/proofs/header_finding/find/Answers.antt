use Rattle.std.proofs.Common.{arith}
use Rattle.srv6_rules.specs.Chain.{Upper}
use Rattle.srv6_rules.specs.Endpoint.{at_end, at_header}
use Rattle.srv6_rules.specs.Packet.{packet_at}
use Rattle.ip6_headers.specs.ChainStepping.{place_view}
use Rattle.ip6_headers.proofs.PublicLaws.{holds_spellable}
use Rattle.endpoint_chain.proofs.PublicLaws.{alone_length, comes_upper}
use Rattle.end_behaviours.specs.HeaderFinding.{at_sid_from}
use Rattle.end_behaviours.proofs.FoundLemmas.{found_same}
use Rattle.end_behaviours.proofs.FromLemmas.{cut_found, from_start, from_within, reached_behind, reached_comes, reached_lies}
use Rattle.end_behaviours.proofs.header_finding.find.Goals as goal

pub headers-init : goal.headers-init
headers-init c =
    from_start c.args.sid.now c.args.allow.now c.args.bytes.now (place_view c.args.start) c.split_at.result.1.now c.requires.packet
    c.requires.stands c.split_at.ensures.back

pub returns-in-Upper : goal.returns-in-Upper
returns-in-Upper c =
    let s = c.args.sid.now in
    let allow = c.args.allow.now in
    let p = packet_at c.args.bytes.now in
    let q = place_view c.headers.place in
    let r = c.headers.invariant in
    let start = place_view c.args.start in
    let rest = at_sid_from s allow p in
    let same = comes_upper (at_header s p) (at_end s allow p) p (rest start) q c.headers.rest.now r.comes c.in-Upper.ensures in
    found_same s p c.args.start.at rest (rest start) (at_end s allow p (Upper q)) c.found_upper.result same
    (c.found_upper.ensures p c.args.start.at rest c.shifts_at-shifts.ensures (from_within p c.args.start.at q r.stands r.later)
    (holds_spellable c.args.bytes.now c.requires.packet.holds).payload_len)

pub returns-in-Cut : goal.returns-in-Cut
returns-in-Cut c =
    let s = c.args.sid.now in
    let allow = c.args.allow.now in
    let p = packet_at c.args.bytes.now in
    let q = place_view c.headers.place in
    let r = c.headers.invariant in
    rw c.cut_fault.ensures
    (cut_found s allow c.args.bytes.now (place_view c.args.start) q c.headers.rest.now c.requires.packet r c.in-Cut.ensures.0
    c.in-Cut.ensures.1)

pub found_at-requires-clause-lies : goal.found_at-requires-clause-lies
found_at-requires-clause-lies c =
    reached_lies c.args.sid.now c.args.allow.now (packet_at c.args.bytes.now) (place_view c.args.start) (place_view c.headers.place)
    c.headers.rest.now c.split_at-in-Header.result.0.now c.in-Header.len c.headers.invariant c.in-Header.ensures
    c.split_at-in-Header.ensures.front

pub returns-in-Some : goal.returns-in-Some
returns-in-Some c =
    let s = c.args.sid.now in
    let allow = c.args.allow.now in
    let p = packet_at c.args.bytes.now in
    let q = place_view c.headers.place in
    let r = c.headers.invariant in
    let start = place_view c.args.start in
    let rest = at_sid_from s allow p in
    let same = reached_comes s allow p start q c.headers.rest.now c.split_at-in-Header.result.0.now c.in-Header.len r c.in-Header.ensures
    c.split_at-in-Header.ensures.front in
    found_same s p c.args.start.at rest (rest start) _ c.in-Some.found same (c.in-Some.ensures c.args.start.at rest r.later)

pub headers-preserved : goal.headers-preserved
headers-preserved c =
    let s = c.args.sid.now in
    let allow = c.args.allow.now in
    let p = packet_at c.args.bytes.now in
    reached_behind s allow p (place_view c.args.start) (place_view c.headers.place) c.headers.rest.now c.split_at-in-Header.result.0.now
    c.in-Header.len c.headers.invariant c.in-Header.ensures c.split_at-in-Header.ensures.front c.split_at-in-Header.result.1.now
    (place_view c.behind-place.result) c.split_at-in-Header.ensures.back c.behind-place.ensures c.in_default.ensures

pub split_at-requires : goal.split_at-requires
split_at-requires c =
    let within = c.requires.stands.within in
    let all = alone_length c.args.bytes.now c.requires.packet in
    omega arith

pub behind-place-requires-clause-fits : goal.behind-place-requires-clause-fits
behind-place-requires-clause-fits c =
    let lies = reached_lies c.args.sid.now c.args.allow.now (packet_at c.args.bytes.now) (place_view c.args.start)
    (place_view c.headers.place) c.headers.rest.now c.split_at-in-Header.result.0.now c.in-Header.len c.headers.invariant
    c.in-Header.ensures c.split_at-in-Header.ensures.front in
    let within = lies.within in
    let short = (holds_spellable c.args.bytes.now c.requires.packet.holds).payload_len in
    omega arith
