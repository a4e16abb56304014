use Rattle.std.proofs.Common.{arith}
use Rattle.v6_addr.proofs.AddressWriting.{written_out, written_short}
use Rattle.v6_addr.proofs.write.write_addr.Goals as goal

pub returns-then-run-lt2 : goal.returns-then-run-lt2
returns-then-run-lt2 c =
    written_out _ _ _ _ _ _ c.groups_of_addr-groups.ensures c.find_longest_run-run.ensures.run c.if-run-lt2.true c.requires
    c.push_groups.ensures.bytes

pub returns : goal.returns
returns c =
    written_short _ _ _ _ _ _ _ _ _ _ _ c.groups_of_addr-groups.ensures c.find_longest_run-run.ensures.run c.if-run-lt2.false
    c.split_at.ensures.front c.split_at-2.ensures.back
    c.requires c.push_groups-2.ensures.bytes (c.push.ensures.ascii (omega arith))
    (c.push-2.ensures.ascii (omega arith)) c.push_groups-3.ensures.bytes
