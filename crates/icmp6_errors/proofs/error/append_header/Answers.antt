use Rattle.srv6_rules.specs.Packet.{two_bytes, address_bytes}
use Rattle.icmp6_errors.proofs.MessageLemmas.{header_written}
use Rattle.icmp6_errors.proofs.error.append_header.Goals as goal

pub returns-clause-bytes : goal.returns-clause-bytes
unfolding two_bytes address_bytes
returns-clause-bytes c =
    λ message long.
    header_written c.args.out.now.items c.append.new.out.items c.append-2.new.out.items c.append-3.new.out.items
    c.append-4.new.out.items c.append-5.new.out.items c.to_be_bytes.result c.to_be_bytes-2.result c.to_be_bytes-3.result message
    c.args.source.value c.args.destination.value c.args.len long c.append.ensures c.to_be_bytes.ensures c.append-2.ensures
    c.append-3.ensures c.to_be_bytes-2.ensures c.append-4.ensures c.to_be_bytes-3.ensures c.append-5.ensures
