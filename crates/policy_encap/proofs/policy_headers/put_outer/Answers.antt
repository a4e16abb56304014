use Rattle.std.proofs.Common.{◌+◌, ◌*◌, sym, ap}
use Rattle.srv6_rules.specs.Packet.{two_bytes, four_bytes, address_bytes}
use Rattle.policy_encap.proofs.RoundLemmas.{first_segment}
use Rattle.policy_encap.proofs.EncapFrontLemmas.{outer_put}
use Rattle.policy_encap.proofs.policy_headers.put_outer.Goals as goal

pub returns : goal.returns
unfolding two_bytes four_bytes address_bytes
returns c =
    outer_put c.args.policy.now c.args.next_header c.len-len.result _ _ c.args.buf.now c.put_front.new.self
    c.put_front-2.new.self c.put_front-3.new.self c.put_front-4.new.self c.put_front-5.new.self c.to_be_bytes-4.result
    c.to_be_bytes-3.result c.to_be_bytes-2.result c.to_be_bytes.result (sym c.len-len.ensures)
    (ap (λ n. 1610612736 + n * 1048576 + c.args.policy.now.flow_label) c.from.ensures)
    (first_segment c.args.policy.now c.as_slice.result.now c.requires.policy.some c.as_slice.ensures)
    c.to_be_bytes.ensures c.put_front.ensures c.to_be_bytes-2.ensures c.put_front-2.ensures c.put_front-3.ensures
    c.to_be_bytes-3.ensures c.put_front-4.ensures c.to_be_bytes-4.ensures c.put_front-5.ensures
