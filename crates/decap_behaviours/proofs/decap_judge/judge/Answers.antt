use Rattle.std.proofs.Common.{◌≡◌, ap, ◌∙◌}
use Rattle.srv6_rules.specs.Packet.{Packet, packet_at}
use Rattle.srv6_rules.specs.Endpoint.{Endpoint, Refused, at_end, at_header, at_last_upper, at_sid}
use Rattle.ip6_headers.specs.ChainStepping.{place_view}
use Rattle.endpoint_chain.proofs.PublicLaws.{comes_start, comes_upper, comes_cut, comes_decided, comes_behind}
use Rattle.decap_behaviours.proofs.HeaderLemmas.{comes_within, upper_last}
use Rattle.decap_behaviours.proofs.OutcomeLemmas.{judged_at}
use Rattle.decap_behaviours.proofs.decap_judge.judge.Goals as goal

pub headers-init : goal.headers-init
headers-init c =
    let s = c.args.sid.now in
    let allow = c.args.allow.now in
    let p = packet_at c.args.bytes.now in
    comes_start (at_header s p) (at_end s allow p) p (place_view c.first-place.result) c.payload-rest.result.now c.next_header.result
    c.first-place.ensures (c.next_header.ensures ∙ ap (λ (x : Packet). x.next_header) c.over-packet.ensures)
    (c.payload-rest.ensures ∙ ap (λ (x : Packet). x.payload) c.over-packet.ensures)

pub returns-in-Upper : goal.returns-in-Upper
returns-in-Upper c =
    let s = c.args.sid.now in
    let allow = c.args.allow.now in
    let p = packet_at c.args.bytes.now in
    let q = place_view c.headers.place in
    let rest = c.headers.rest.now in
    let is = c.headers.invariant in
    let same = comes_upper (at_header s p) (at_end s allow p) p (at_sid s allow p) q rest is c.in-Upper.ensures in
    judged_at p (at_sid s allow p) (at_last_upper s allow p q) c.judge_upper.result (same ∙ upper_last s allow p q c.requires.next)
    (c.judge_upper.ensures p (comes_within (at_header s p) (at_end s allow p) p (at_sid s allow p) q rest is))

pub returns-in-Cut : goal.returns-in-Cut
returns-in-Cut c =
    let s = c.args.sid.now in
    let allow = c.args.allow.now in
    let p = packet_at c.args.bytes.now in
    let q = place_view c.headers.place in
    let rest = c.headers.rest.now in
    rw c.cut_fault.ensures
    (comes_cut (at_header s p) (at_end s allow p) p (at_sid s allow p) q rest c.headers.invariant c.in-Cut.ensures.0 c.in-Cut.ensures.1)

pub returns-in-Some : goal.returns-in-Some
returns-in-Some c =
    let s = c.args.sid.now in
    let allow = c.args.allow.now in
    let p = packet_at c.args.bytes.now in
    let q = place_view c.headers.place in
    let rest = c.headers.rest.now in
    let P : Endpoint → Type 0 = λ x. x ≡ Refused c.in-Some.fault.reason c.in-Some.fault.at in
    comes_decided (at_header s p) (at_end s allow p) p (at_sid s allow p) q rest c.headers.invariant c.in-Header.len c.in-Header.ensures
    c.split_at.result.0.now c.split_at.ensures.front P c.in-Some.ensures

pub headers-preserved : goal.headers-preserved
headers-preserved c =
    let s = c.args.sid.now in
    let allow = c.args.allow.now in
    let p = packet_at c.args.bytes.now in
    let q = place_view c.headers.place in
    let rest = c.headers.rest.now in
    comes_behind (at_header s p) (at_end s allow p) p (at_sid s allow p) q rest c.headers.invariant c.in-Header.len c.in-Header.ensures
    c.split_at.result.0.now c.split_at.ensures.front c.split_at.result.1.now (place_view c.behind-place.result)
    c.split_at.ensures.back c.behind-place.ensures c.in_default.ensures
