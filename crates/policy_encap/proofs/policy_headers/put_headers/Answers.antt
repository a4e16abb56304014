use Rattle.std.proofs.Common.{◌∙◌, length, refl, sym, ap, arith}
use Rattle.srv6_rules.specs.Packet.{Packet}
use Rattle.pkt_buf.specs.BufferView.{Buffer}
use Rattle.policy_encap.proofs.EncapFrontLemmas.{routed}
use Rattle.policy_encap.proofs.policy_headers.put_headers.Goals as goal

pub put_outer-requires-else-is_empty-clause-fits : goal.put_outer-requires-else-is_empty-clause-fits
put_outer-requires-else-is_empty-clause-fits c =
    let policy = c.args.policy.now in
    let fits = c.requires.fits in
    let shape = routed policy c.args.reduced c.args.inner c.args.buf.now.bytes c.inner_kind-else-is_empty.result _
    c.listed-listed.result.now c.as_slice.result.now c.listed-listed.ensures
    (sym c.is_empty.ensures ∙ c.if-is_empty.false) c.inner_kind-else-is_empty.ensures
    c.as_slice.ensures refl in
    let bytes = ap (λ (b : Buffer). length b.bytes) c.put_routing.ensures in
    let size = ap (λ (p : Packet). length p.payload) shape in
    omega (arith, bytes, size, fits)
