use Rattle.std.proofs.Common.{arith}
use Rattle.srv6_rules.specs.Packet.{address_bytes}
use Rattle.srh_codec.proofs.SrhWriteLemmas.{entries_more}
use Rattle.srh_codec.proofs.write.write_entries.Goals as goal

pub loop-entry-preserved : goal.loop-entry-preserved
unfolding address_bytes
loop-entry-preserved c =
    let out = c.loop-entry.out in
    let entries = c.args.entries.now in
    record {
      place = omega arith;
      written = entries_more c.loop-entry.at c.loop-entry.entry-index out c.write_u128.new.buf _ _ entries _ (omega arith)
          c.loop-entry.invariant.written c.write_u128.ensures c.loop-entry-test.true;
    }
