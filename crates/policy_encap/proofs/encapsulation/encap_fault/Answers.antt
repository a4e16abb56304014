use Rattle.std.proofs.Common.{◌≤◌, ◌∙◌, List, ℕ, length, sym, arith}
use Rattle.srv6_rules.specs.Policies.{outer_by}
use Rattle.srv6_rules.specs.PoliciesTerms.{inner_hop, inner_lowered_bytes}
use Rattle.policy_encap.specs.Inner.{HoldsInner}
use Rattle.policy_encap.proofs.EncapLemmas.{length_lowered, encap_refuses, encap_wants}
use Rattle.policy_encap.proofs.encapsulation.encap_fault.Goals as goal

pub returns-then-length-gt-MAX_PAYLOAD_LEN : goal.returns-then-length-gt-MAX_PAYLOAD_LEN
returns-then-length-gt-MAX_PAYLOAD_LEN c =
    let policy = c.args.policy.now in
    let inner = c.args.inner in
    let bytes : List ℕ = c.args.bytes.now in
    let holds : HoldsInner inner bytes = c.requires.packet in
    let size = c.payload_len-length.ensures.value inner (inner_lowered_bytes inner bytes)
    (length_lowered inner bytes holds ∙ sym c.inner_len.ensures.len) in
    (encap_refuses policy inner bytes c.inner_hop.result c.payload_len-length.result c.inner_hop.ensures c.if-inner_hop-le1.false size
    c.if-length-gt-MAX_PAYLOAD_LEN.true).told_so

pub returns : goal.returns
returns c =
    let policy = c.args.policy.now in
    let inner = c.args.inner in
    let bytes : List ℕ = c.args.bytes.now in
    let holds : HoldsInner inner bytes = c.requires.packet in
    let size = c.payload_len-length.ensures.value inner (inner_lowered_bytes inner bytes)
    (length_lowered inner bytes holds ∙ sym c.inner_len.ensures.len) in
    let low = c.if-length-gt-MAX_PAYLOAD_LEN.false in
    let short : length (outer_by policy policy.reduced inner (inner_lowered_bytes inner bytes)).payload ≤ 65535 =
    omega (arith, size, low) in
    let wants = encap_wants policy inner bytes c.inner_hop.result c.inner_hop.ensures c.if-inner_hop-le1.false short in
    (wants.packet, wants.outer)
