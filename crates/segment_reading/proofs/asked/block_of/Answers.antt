use Rattle.std.proofs.Common.{◌≡◌, true, false}
use Rattle.v6_addr.specs.Address.{is_inside}
use Rattle.list_pack.proofs.SidLoops.{find_next, find_found}
use Rattle.segment_reading.proofs.AskedBlocks.{block_is_sized}
use Rattle.segment_reading.proofs.asked.block_of.Goals as goal

pub returns-then-inside-clause-value : goal.returns-then-inside-clause-value
returns-then-inside-clause-value c =
    let test : is_inside c.args.prefix.now c.block-block.result.now.prefix ≡ true = cc in
    find_found (λ b. is_inside c.args.prefix.now b.prefix) c.args.net.now.blocks c.loop-n.n c.block-block.result.now c.block-block.ensures
    c.loop-n.invariant test

pub loop-n-preserved : goal.loop-n-preserved
loop-n-preserved c =
    let test : is_inside c.args.prefix.now c.block-block.result.now.prefix ≡ false = cc in
    find_next (λ b. is_inside c.args.prefix.now b.prefix) c.args.net.now.blocks c.loop-n.n c.block-block.result.now c.block-block.ensures
    c.loop-n.invariant test

pub returns-then-inside-clause-sized : goal.returns-then-inside-clause-sized
returns-then-inside-clause-sized c =
    block_is_sized c.args.net.now c.loop-n.n c.block-block.result.now c.keeps_rules.ensures.facts c.block-block.ensures
