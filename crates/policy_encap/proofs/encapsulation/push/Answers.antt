use Rattle.std.proofs.Common.{◌≡◌, ◌^◌, ◌<◌, ◌≤◌, ◌∙◌, All, List, ℕ, length, sym, ap, subst, arith}
use Rattle.srv6_rules.specs.Packet.{spelling}
use Rattle.srv6_rules.specs.Policies.{outer_by}
use Rattle.pkt_buf.specs.BufferView.{Buffer}
use Rattle.policy_encap.proofs.EncapLemmas.{push_makes}
use Rattle.policy_encap.proofs.encapsulation.push.Goals as goal

pub returns-clause-answer : goal.returns-clause-answer
returns-clause-answer c =
    let policy = c.args.policy.now in
    let bytes : List ℕ = c.args.buf.now.bytes in
    let P : List ℕ → Type 0 = λ xs. All (λ b. b < 2 ^ 8) xs in
    let size = c.payload_len-length.ensures.value c.args.inner bytes (sym c.len.ensures) in
    let low = c.if-length-gt-MAX_PAYLOAD_LEN.false in
    let short : length (outer_by policy c.args.reduced c.args.inner bytes).payload ≤ 65535 = omega (arith, size, low) in
    let spelled : c.put_headers.new.buf.bytes ≡ spelling (outer_by policy c.args.reduced c.args.inner bytes) =
    ap (λ (b : Buffer). b.bytes) c.put_headers.ensures
    ∙ ap (λ xs. spelling (outer_by policy c.args.reduced c.args.inner xs)) c.reserve_front.ensures.bytes in
    push_makes policy c.args.reduced c.args.inner bytes c.put_headers.new.buf.bytes c.requires.policy c.outer_fits.ensures short
    (subst P c.view.ensures c.bytes_fit.ensures) spelled
