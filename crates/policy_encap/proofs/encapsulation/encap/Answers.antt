use Rattle.std.proofs.Common.{◌≡◌, ◌^◌, ◌<◌, ◌≤◌, ◌∙◌, All, List, ℕ, length, sym, ap, subst, arith}
use Rattle.std.proofs.lemmas.Result.{err_from_is_err_and}
use Rattle.srv6_rules.specs.Packet.{spelling}
use Rattle.srv6_rules.specs.Policies.{outer_by}
use Rattle.srv6_rules.specs.PoliciesTerms.{inner_hop, inner_lowered_bytes}
use Rattle.pkt_buf.specs.BufferView.{Buffer}
use Rattle.pkt_buf.proofs.PublicLaws.{left_whole}
use Rattle.policy_encap.specs.Inner.{HoldsInner}
use Rattle.policy_encap.proofs.EncapLemmas.{length_lowered, encap_refuses, encap_wants, encap_makes}
use Rattle.policy_encap.proofs.encapsulation.encap.Goals as goal

pub returns-then-length-gt-MAX_PAYLOAD_LEN-clause-answer : goal.returns-then-length-gt-MAX_PAYLOAD_LEN-clause-answer
returns-then-length-gt-MAX_PAYLOAD_LEN-clause-answer c =
    let policy = c.args.policy.now in
    let inner = c.args.inner in
    let bytes : List ℕ = c.args.buf.now.bytes in
    let holds : HoldsInner inner bytes = c.requires.packet in
    let hop : c.inner_hop.result ≡ inner_hop inner bytes = c.inner_hop.ensures ∙ ap (inner_hop inner) c.view.ensures in
    let len : c.inner_len-inner_len.result ≡ length bytes = c.inner_len-inner_len.ensures.len ∙ ap length c.view-2.ensures in
    let size = c.payload_len-length.ensures.value inner (inner_lowered_bytes inner bytes) (length_lowered inner bytes holds ∙ sym len) in
    encap_refuses policy inner bytes c.inner_hop.result c.payload_len-length.result hop c.if-inner_hop-le1.false size
    c.if-length-gt-MAX_PAYLOAD_LEN.true

pub returns-in_err-reserve_front-clause-answer : goal.returns-in_err-reserve_front-clause-answer
returns-in_err-reserve_front-clause-answer c =
    let policy = c.args.policy.now in
    let inner = c.args.inner in
    let bytes : List ℕ = c.args.buf.now.bytes in
    let holds : HoldsInner inner bytes = c.requires.packet in
    let hop : c.inner_hop.result ≡ inner_hop inner bytes = c.inner_hop.ensures ∙ ap (inner_hop inner) c.view.ensures in
    let len : c.inner_len-inner_len.result ≡ length bytes = c.inner_len-inner_len.ensures.len ∙ ap length c.view-2.ensures in
    let size = c.payload_len-length.ensures.value inner (inner_lowered_bytes inner bytes) (length_lowered inner bytes holds ∙ sym len) in
    let low = c.if-length-gt-MAX_PAYLOAD_LEN.false in
    let short : length (outer_by policy policy.reduced inner (inner_lowered_bytes inner bytes)).payload ≤ 65535 =
    omega (arith, size, low) in
    let p = err_from_is_err_and c.from_residual.result c.from_residual.ensures.1 in
    rw (p.1, p.2, c.reserve_front.ensures.bytes) (encap_wants policy inner bytes c.inner_hop.result hop c.if-inner_hop-le1.false short)

pub returns-clause-answer : goal.returns-clause-answer
returns-clause-answer c =
    let policy = c.args.policy.now in
    let inner = c.args.inner in
    let bytes : List ℕ = c.args.buf.now.bytes in
    let holds : HoldsInner inner bytes = c.requires.packet in
    let hop : c.inner_hop.result ≡ inner_hop inner bytes = c.inner_hop.ensures ∙ ap (inner_hop inner) c.view.ensures in
    let len : c.inner_len-inner_len.result ≡ length bytes = c.inner_len-inner_len.ensures.len ∙ ap length c.view-2.ensures in
    let size = c.payload_len-length.ensures.value inner (inner_lowered_bytes inner bytes) (length_lowered inner bytes holds ∙ sym len) in
    let low = c.if-length-gt-MAX_PAYLOAD_LEN.false in
    let short : length (outer_by policy policy.reduced inner (inner_lowered_bytes inner bytes)).payload ≤ 65535 =
    omega (arith, size, low) in
    let P : List ℕ → Type 0 = λ xs. All (λ b. b < 2 ^ 8) xs in
    let kept : c.view_mut.result.now ≡ bytes = c.view_mut.ensures.value ∙ c.reserve_front.ensures.bytes in
    let lowered : c.lower.new.bytes ≡ inner_lowered_bytes inner bytes = c.lower.ensures ∙ ap (inner_lowered_bytes inner) kept in
    let same : length c.lower.new.bytes ≡ length c.reserve_front.new.self.bytes =
    ap length lowered ∙ length_lowered inner bytes holds ∙ ap length (sym c.reserve_front.ensures.bytes) in
    let left = left_whole c.reserve_front.new.self.bytes c.lower.new.bytes same ∙ lowered in
    let spelled : c.put_headers.new.buf.bytes ≡ spelling (outer_by policy policy.reduced inner (inner_lowered_bytes inner bytes)) =
    ap (λ (b : Buffer). b.bytes) c.put_headers.ensures ∙ ap (λ xs. spelling (outer_by policy policy.reduced inner xs)) left in
    encap_makes policy inner bytes c.inner_hop.result c.put_headers.new.buf.bytes hop c.if-inner_hop-le1.false c.requires.policy
    c.outer_fits.ensures short (subst P c.view-3.ensures c.bytes_fit.ensures) spelled
