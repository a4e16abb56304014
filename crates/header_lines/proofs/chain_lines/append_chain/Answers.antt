use Rattle.std.proofs.Common.{◌≡◌, ◌++◌, ℕ, List, length, take, drop, string_bytes, Ok, ap, subst, ◌∙◌}
use Rattle.std.proofs.lemmas.Bool.{eq-eqb, ne_eqb}
use Rattle.std.proofs.lemmas.Result.{on_ok_weaker}
use Rattle.ip6_headers.specs.declared.chain.ChainStep.{ChainStep}
use Rattle.ip6_headers.specs.ChainStepping.{IsStep, begun, place_view}
use Rattle.header_lines.specs.HeaderLines.{header_lines, upper_line}
use Rattle.srv6_rules.proofs.PublicLaws.{spelled_payload}
use Rattle.header_lines.proofs.ChainLines.{shown_behind, shown_cut, shown_fragment, shown_start, shown_upper}
use Rattle.header_lines.proofs.chain_lines.append_chain.Goals as goal

pub headers-init : goal.headers-init
headers-init c = shown_start c.args.packet.now c.bytes-bytes.result.now (string_bytes c.args.out.now)
    (place_view c.chain_start-place.result) c.bytes-bytes.ensures c.chain_start-place.ensures

pub returns-then-place-eq-FRAGMENT : goal.returns-then-place-eq-FRAGMENT
returns-then-place-eq-FRAGMENT c =
    let p = c.args.packet.now in
    let bytes = c.bytes-bytes.result.now in
    let q = place_view c.headers.place in
    let len = c.in-Ok-Header.len in
    let is = c.in-Ok-Header.ensures.chain p c.headers.invariant.behind (spelled_payload p bytes c.bytes-bytes.ensures)
    ∙ ap (λ (s : ChainStep). begun p q (Ok s)) c.in-Ok-Header.field-0-is in
    let header : c.split_at-in-Ok-Header.result.0.now ≡ take len (drop q.at bytes) =
    c.split_at-in-Ok-Header.ensures.front ∙ ap (take len) c.split_at.ensures.back in
    let added = c.in_ok-append_header-in-Ok-Header.ensures
    ∙ ap (λ (xs : List ℕ). string_bytes c.headers.out ++ header_lines (record { place = q; bytes = xs })) header in
    shown_fragment p bytes (string_bytes c.args.out.now) (string_bytes c.headers.out) (string_bytes c.append_header.new.out) q
    c.bytes-bytes.ensures c.headers.invariant len (place_view c.in-Ok-Header.next) is added
    (eq-eqb q.kind 44 c.if-place-eq-FRAGMENT.true)

pub headers-preserved : goal.headers-preserved
headers-preserved c =
    let p = c.args.packet.now in
    let bytes = c.bytes-bytes.result.now in
    let q = place_view c.headers.place in
    let len = c.in-Ok-Header.len in
    let is = c.in-Ok-Header.ensures.chain p c.headers.invariant.behind (spelled_payload p bytes c.bytes-bytes.ensures)
    ∙ ap (λ (s : ChainStep). begun p q (Ok s)) c.in-Ok-Header.field-0-is in
    let header : c.split_at-in-Ok-Header.result.0.now ≡ take len (drop q.at bytes) =
    c.split_at-in-Ok-Header.ensures.front ∙ ap (take len) c.split_at.ensures.back in
    let added = c.in_ok-append_header-in-Ok-Header.ensures
    ∙ ap (λ (xs : List ℕ). string_bytes c.headers.out ++ header_lines (record { place = q; bytes = xs })) header in
    let S : ChainStep → Type 0 = λ s. IsStep q (drop q.at bytes) (Ok s) in
    let step = subst S c.in-Ok-Header.field-0-is c.in-Ok-Header.ensures.step in
    shown_behind p bytes (string_bytes c.args.out.now) (string_bytes c.headers.out) (string_bytes c.append_header.new.out) q
    c.bytes-bytes.ensures c.headers.invariant len (place_view c.in-Ok-Header.next) is added
    (ne_eqb q.kind 44 c.if-place-eq-FRAGMENT.false) step.0 step.1

pub returns-in-Ok-Upper : goal.returns-in-Ok-Upper
returns-in-Ok-Upper c =
    let p = c.args.packet.now in
    let bytes = c.bytes-bytes.result.now in
    let q = place_view c.headers.place in
    let is = c.in-Ok-Upper.ensures.chain p c.headers.invariant.behind (spelled_payload p bytes c.bytes-bytes.ensures)
    ∙ ap (λ (s : ChainStep). begun p q (Ok s)) c.in-Ok-Upper.field-0-is in
    on_ok_weaker c.append_upper.result
    (λ (added : string_bytes c.append_upper.new.out
    ≡ string_bytes c.headers.out ++ upper_line q.kind q.at (length c.split_at.result.1.now)).
    shown_upper p bytes (string_bytes c.args.out.now) (string_bytes c.headers.out) (string_bytes c.append_upper.new.out) q
    c.bytes-bytes.ensures c.headers.invariant is
    (added ∙ ap (λ (xs : List ℕ). string_bytes c.headers.out ++ upper_line q.kind q.at (length xs)) c.split_at.ensures.back))
    c.append_upper.ensures

pub returns-in-Err : goal.returns-in-Err
returns-in-Err c =
    let p = c.args.packet.now in
    let bytes = c.bytes-bytes.result.now in
    let q = place_view c.headers.place in
    let is = c.in-Err.ensures.chain p c.headers.invariant.behind (spelled_payload p bytes c.bytes-bytes.ensures) in
    on_ok_weaker c.append_bad_chain.result
    (shown_cut p bytes (string_bytes c.args.out.now) (string_bytes c.headers.out) (string_bytes c.append_bad_chain.new.out) q
    c.bytes-bytes.ensures c.headers.invariant is) c.append_bad_chain.ensures
