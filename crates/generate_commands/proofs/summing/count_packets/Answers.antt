use Rattle.std.proofs.Common.{◌≡◌, suc, ◌+◌, ◌-◌, arith}
use Rattle.generate_commands.specs.Summary.{frames_in, left_in, walks_of, walks_of_packet}
use Rattle.generate_commands.proofs.WalksCounted.{frames_add, left_add, summed_on}
use Rattle.generate_commands.proofs.summing.count_packets.Goals as goal

pub loop-before-preserved : goal.loop-before-preserved
loop-before-preserved c =
    let walks = walks_of_packet c.args.net.now c.args.headend.now in
    let left : c.args.packets - c.loop-before.before ≡ suc (c.args.packets - (c.loop-before.before + 1)) = omega arith in
    let few = c.loop-before.invariant.few in
    let each = c.loop-before.invariant.each in
    let more = c.in_ok-counts.ensures.few in
    let one = c.in_ok-counts.ensures.one in
    record {
      few = omega (arith, few, more);
      each = omega (arith, each, one);
      frames = summed_on walks frames_in frames_add c.loop-before.before (c.args.packets - c.loop-before.before)
          (c.args.packets - (c.loop-before.before + 1))
          c.loop-before.frames c.in_ok-counts.counts.frames (frames_in (walks_of c.args.net.now c.args.headend.now c.args.packets))
          left c.in_ok-counts.ensures.frames c.loop-before.invariant.frames;
      left = summed_on walks (left_in c.args.net.now) (left_add c.args.net.now) c.loop-before.before
          (c.args.packets - c.loop-before.before) (c.args.packets - (c.loop-before.before + 1))
          c.loop-before.left c.in_ok-counts.counts.left (left_in c.args.net.now (walks_of c.args.net.now c.args.headend.now c.args.packets))
          left c.in_ok-counts.ensures.left c.loop-before.invariant.left;
    }
