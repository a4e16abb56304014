use Rattle.std.proofs.Common.{◌≡◌}
use Rattle.srv6_rules.specs.Endpoint.{Endpoint, Refused, at_address, at_address_end, at_address_header}
use Rattle.ip6_headers.specs.ChainStepping.{place_view}
use Rattle.endpoint_chain.proofs.ChainLemmas.{comes_start, comes_upper, comes_cut, comes_decided, comes_behind}
use Rattle.endpoint_chain.proofs.own_address.fault_at_address.Goals as goal

pub headers-init : goal.headers-init
headers-init c =
    let p = c.args.packet.now in
    comes_start at_address_header (at_address_end p) p (place_view c.first-place.result) c.payload-rest.result.now c.next_header.result
    c.first-place.ensures c.next_header.ensures c.payload-rest.ensures

pub returns-in-Upper : goal.returns-in-Upper
returns-in-Upper c =
    let p = c.args.packet.now in
    let q = place_view c.headers.place in
    let rest = c.headers.rest.now in
    comes_upper at_address_header (at_address_end p) p (at_address p) q rest c.headers.invariant c.in-Upper.ensures

pub returns-in-Cut : goal.returns-in-Cut
returns-in-Cut c =
    let p = c.args.packet.now in
    let q = place_view c.headers.place in
    let rest = c.headers.rest.now in
    rw c.cut_fault.ensures
    (comes_cut at_address_header (at_address_end p) p (at_address p) q rest c.headers.invariant c.in-Cut.ensures.0 c.in-Cut.ensures.1)

pub returns-in-Some : goal.returns-in-Some
returns-in-Some c =
    let p = c.args.packet.now in
    let q = place_view c.headers.place in
    let rest = c.headers.rest.now in
    let P : Endpoint → Type 0 = λ x. x ≡ Refused c.in-Some.fault.reason c.in-Some.fault.at in
    comes_decided at_address_header (at_address_end p) p (at_address p) q rest c.headers.invariant c.in-Header.len c.in-Header.ensures
    c.split_at.result.0.now c.split_at.ensures.front P c.in-Some.ensures

pub headers-preserved : goal.headers-preserved
headers-preserved c =
    let p = c.args.packet.now in
    let q = place_view c.headers.place in
    let rest = c.headers.rest.now in
    comes_behind at_address_header (at_address_end p) p (at_address p) q rest c.headers.invariant c.in-Header.len c.in-Header.ensures
    c.split_at.result.0.now c.split_at.ensures.front c.split_at.result.1.now (place_view c.behind-place.result)
    c.split_at.ensures.back c.behind-place.ensures c.in_default.ensures
