use Rattle.std.proofs.Common.{◌<◌, arith}
use Rattle.srx_edge.proofs.Sends.{pour_next}
use Rattle.srx_edge.proofs.output.pour.Goals as goal

pub loop-written-preserved : goal.loop-written-preserved
loop-written-preserved g c =
    let back = c.split_at.ensures.back in
    let some : 0 < c.in-Ok.count = omega (arith, c.in-Ok.count-test.1) in
    record {
      within = omega (arith, c.in-Ok.ensures.0, c.split_at.ensures.back_len);
      seen = pour_next c.loop-written.written c.in-Ok.count c.args.bytes.now _ _ _ c.loop-written.invariant.seen
          (rw back at c.in-Ok.ensures.1) some;
    }
