use Rattle.std.proofs.Common.{ap, ◌∙◌}
use Rattle.srv6_rules.specs.Packet4.{read4, checksum_lowered}
use Rattle.ip6_headers.proofs.PacketBytes4.{ttl_lowered_written, read4_lowered}
use Rattle.ip6_headers.proofs.ip4.lower_ttl.Goals as goal

pub returns-clause-bytes : goal.returns-clause-bytes
returns-clause-bytes c =
    c.put_two.ensures
    ∙ ttl_lowered_written c.args.bytes.now c.checksum_lowered-checksum.result
    (c.checksum_lowered-checksum.ensures ∙ ap checksum_lowered c.two_at.ensures)

pub returns-clause-packet : goal.returns-clause-packet
returns-clause-packet c p e =
    ap read4
    (c.put_two.ensures
    ∙ ttl_lowered_written c.args.bytes.now c.checksum_lowered-checksum.result
    (c.checksum_lowered-checksum.ensures ∙ ap checksum_lowered c.two_at.ensures))
    ∙ read4_lowered c.args.bytes.now p c.requires.holds.in_range e
