use Rattle.std.proofs.Common.{◌≤◌, length, arith}
use Rattle.list_pack.proofs.ValueSums.{packed_end_law}
use Rattle.list_pack.proofs.segments.packed_value.Goals as goal

pub returns : goal.returns
returns c =
    let past : length c.args.more.now ≤ c.loop-sid.sid-index = omega arith in
    packed_end_law c.args.block.now.prefix.len c.args.block.now.csid c.loop-sid.value.value c.loop-sid.behind c.loop-sid.sid-index
    c.args.first.now c.args.more.now c.requires.csid c.requires.few c.loop-sid.invariant.told past
