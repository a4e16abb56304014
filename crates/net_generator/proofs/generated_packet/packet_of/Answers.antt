use Rattle.std.proofs.Common.{◌+◌, ◌%◌, ◌≤◌, ◌∙◌, ap, take, arith}
use Rattle.std.specs.Prelude.{replicate}
use Rattle.std.proofs.lemmas.List.{take-replicate}
use Rattle.srv6_rules.specs.Packet.{two_bytes, address_bytes}
use Rattle.net_generator.proofs.GeneratorSpelled.{packet_written}
use Rattle.net_generator.proofs.generated_packet.packet_of.Goals as goal

pub returns : goal.returns
unfolding two_bytes address_bytes
returns c =
    let few : c.args.k % 64 ≤ 63 = omega arith in
    packet_written c.args.k c.new-slot.result.items c.append.new.out.items c.append-2.new.out.items c.append-3.new.out.items
    c.append-4.new.out.items c.append-5.new.out.items c.append-6.new.out.items c.to_be_bytes.result c.to_be_bytes-2.result
    c.to_be_bytes-3.result c.split_at.result.0.now c.new-slot.ensures c.append.ensures c.to_be_bytes.ensures c.append-2.ensures
    c.append-3.ensures
    (c.to_be_bytes-2.ensures
    ∙ ap (λ n. address_bytes (0x2001_0db8_0001_0000_0000_0000_0000_0000 + n)) c.from-source.ensures)
    c.append-4.ensures c.to_be_bytes-3.ensures c.append-5.ensures
    (c.split_at.ensures.front ∙ ap (λ n. take n (replicate 63 0)) c.from.ensures ∙ take-replicate (c.args.k % 64) 63 0 few)
    c.append-6.ensures
