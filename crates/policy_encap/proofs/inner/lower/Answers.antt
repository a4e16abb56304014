use Rattle.std.proofs.Common.{◌∙◌, arith}
use Rattle.policy_encap.proofs.EncapLemmas.{hop_6, hop_4, lowered_6, lowered_4}
use Rattle.policy_encap.proofs.inner.lower.Goals as goal

pub overflow_sub-bytes : goal.overflow_sub-bytes
overflow_sub-bytes c =
    let hop = hop_6 c.args.inner c.args.bytes.now c.in-V6.is in
    let some = c.requires.some in
    omega (arith, hop, some)

pub lower_ttl-requires-clause-some : goal.lower_ttl-requires-clause-some
lower_ttl-requires-clause-some c =
    let hop = hop_4 c.args.inner c.args.bytes.now c.in-V4.is c.requires.holds in
    let some = c.requires.some in
    omega (arith, hop, some)

pub returns-in-V6 : goal.returns-in-V6
returns-in-V6 c = lowered_6 c.args.inner c.args.bytes.now c.in-V6.is c.requires.holds

pub returns-in-V4 : goal.returns-in-V4
returns-in-V4 c = c.lower_ttl.ensures.bytes ∙ lowered_4 c.args.inner c.args.bytes.now c.in-V4.is c.requires.holds
