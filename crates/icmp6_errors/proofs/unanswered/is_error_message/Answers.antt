use Rattle.std.proofs.Common.{◌≡◌, ℕ, ◌&&◌, List, take, drop, slice_get, Ok, refl, sym, ap, subst, ◌∙◌}
use Rattle.std.proofs.lemmas.Bool.{eq-eqb, ne_eqb}
use Rattle.srv6_rules.specs.Errors.{is_error_type, is_later_fragment}
use Rattle.ip6_headers.specs.declared.chain.ChainStep.{ChainStep}
use Rattle.ip6_headers.specs.ChainStepping.{IsStep, place_view, begun}
use Rattle.srv6_rules.proofs.PublicLaws.{spelled_payload}
use Rattle.icmp6_errors.proofs.ErrorChains.{asked_start, asked_upper, asked_cut, asked_later, asked_behind}
use Rattle.icmp6_errors.proofs.unanswered.is_error_message.Goals as goal

pub headers-init : goal.headers-init
headers-init c =
    asked_start c.args.packet.now c.bytes-bytes.result.now (place_view c.chain_start-place.result) c.bytes-bytes.ensures
    c.chain_start-place.ensures

pub returns-then-is_later_fragment : goal.returns-then-is_later_fragment
returns-then-is_later_fragment c =
    let p = c.args.packet.now in
    let bytes = c.bytes-bytes.result.now in
    let q = place_view c.headers.place in
    let len = c.in-Ok-Header.len in
    let is = c.in-Ok-Header.ensures.chain p c.headers.invariant.behind (spelled_payload p bytes c.bytes-bytes.ensures)
    ∙ ap (λ (s : ChainStep). begun p q (Ok s)) c.in-Ok-Header.field-0-is in
    let header : c.split_at-in-Ok-Header.result.0.now ≡ take len (drop q.at bytes) =
    c.split_at-in-Ok-Header.ensures.front ∙ ap (take len) c.split_at.ensures.back in
    let later = sym (ap (λ (xs : List ℕ). is_later_fragment (record { place = q; bytes = xs })) header)
    ∙ sym (c.is_later_fragment.ensures q refl) ∙ c.if-is_later_fragment.true in
    sym (asked_later p bytes q c.bytes-bytes.ensures c.headers.invariant len (place_view c.in-Ok-Header.next) is later)

pub headers-preserved : goal.headers-preserved
headers-preserved c =
    let p = c.args.packet.now in
    let bytes = c.bytes-bytes.result.now in
    let q = place_view c.headers.place in
    let len = c.in-Ok-Header.len in
    let is = c.in-Ok-Header.ensures.chain p c.headers.invariant.behind (spelled_payload p bytes c.bytes-bytes.ensures)
    ∙ ap (λ (s : ChainStep). begun p q (Ok s)) c.in-Ok-Header.field-0-is in
    let header : c.split_at-in-Ok-Header.result.0.now ≡ take len (drop q.at bytes) =
    c.split_at-in-Ok-Header.ensures.front ∙ ap (take len) c.split_at.ensures.back in
    let earlier = sym (ap (λ (xs : List ℕ). is_later_fragment (record { place = q; bytes = xs })) header)
    ∙ sym (c.is_later_fragment.ensures q refl) ∙ c.if-is_later_fragment.false in
    let S : ChainStep → Type 0 = λ s. IsStep q (drop q.at bytes) (Ok s) in
    let step = subst S c.in-Ok-Header.field-0-is c.in-Ok-Header.ensures.step in
    asked_behind p bytes q c.bytes-bytes.ensures c.headers.invariant len (place_view c.in-Ok-Header.next) is earlier step.0 step.1

pub returns-then-place-eq-ICMPV6 : goal.returns-then-place-eq-ICMPV6
returns-then-place-eq-ICMPV6 c =
    let p = c.args.packet.now in
    let bytes = c.bytes-bytes.result.now in
    let q = place_view c.headers.place in
    let is = c.in-Ok-Upper.ensures.chain p c.headers.invariant.behind (spelled_payload p bytes c.bytes-bytes.ensures)
    ∙ ap (λ (s : ChainStep). begun p q (Ok s)) c.in-Ok-Upper.field-0-is in
    let whole = asked_upper p bytes q c.bytes-bytes.ensures c.headers.invariant is in
    let named = eq-eqb q.kind 58 c.if-place-eq-ICMPV6.true in
    c.is_error_type.ensures ∙ ap (λ (xs : List ℕ). is_error_type (slice_get xs 0)) c.split_at.ensures.back
    ∙ sym (whole ∙ ap (λ b. b && is_error_type (slice_get (drop q.at bytes) 0)) named)

pub returns-else-place-eq-ICMPV6 : goal.returns-else-place-eq-ICMPV6
returns-else-place-eq-ICMPV6 c =
    let p = c.args.packet.now in
    let bytes = c.bytes-bytes.result.now in
    let q = place_view c.headers.place in
    let is = c.in-Ok-Upper.ensures.chain p c.headers.invariant.behind (spelled_payload p bytes c.bytes-bytes.ensures)
    ∙ ap (λ (s : ChainStep). begun p q (Ok s)) c.in-Ok-Upper.field-0-is in
    let whole = asked_upper p bytes q c.bytes-bytes.ensures c.headers.invariant is in
    let other = ne_eqb q.kind 58 c.if-place-eq-ICMPV6.false in
    other ∙ sym (whole ∙ ap (λ b. b && is_error_type (slice_get (drop q.at bytes) 0)) other)

pub returns-in-Err : goal.returns-in-Err
returns-in-Err c =
    let p = c.args.packet.now in
    let bytes = c.bytes-bytes.result.now in
    let q = place_view c.headers.place in
    let is = c.in-Err.ensures.chain p c.headers.invariant.behind (spelled_payload p bytes c.bytes-bytes.ensures) in
    sym (asked_cut p bytes q c.bytes-bytes.ensures c.headers.invariant is)
