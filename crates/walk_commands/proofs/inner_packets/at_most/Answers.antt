use Rattle.std.proofs.Common.{arith, sym, take_all}
use Rattle.srv6_rules.specs.Packet.{most_len}
use Rattle.walk_commands.proofs.inner_packets.at_most.Goals as goal

pub returns-then-bytes-lt-MAX_PACKET_LEN-clause-front : goal.returns-then-bytes-lt-MAX_PACKET_LEN-clause-front
returns-then-bytes-lt-MAX_PACKET_LEN-clause-front c =
    let less = c.if-bytes-lt-MAX_PACKET_LEN.true in
    sym (take_all most_len c.args.bytes.now (omega (arith, less)))
