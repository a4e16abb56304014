use Rattle.std.proofs.Common.{[], Ok, Err, Some, None}
use Rattle.pcapng_io.specs.Passing.{BlocksPassed, IsFault}
use Rattle.pcapng_io.proofs.NgPassed.{IsFront, end_at, fault_at, by_block_fault, whole_room, passes_shorter, passed_other, kept_both}
use Rattle.pcapng_io.proofs.cursor.next_packet.Goals as goal

pub returns-in-Ok-None-clause-passed : goal.returns-in-Ok-None-clause-passed
returns-in-Ok-None-clause-passed c =
    let front : IsFront c.args.input.now c.each.cursor c.each.described.items (Ok None) = cc in
    (c.each.invariant.passed, end_at c.args.input.now c.each.cursor c.each.described.items front)

pub returns-in-Err-clause-passed : goal.returns-in-Err-clause-passed
returns-in-Err-clause-passed c =
    let front : IsFront c.args.input.now c.each.cursor c.each.described.items (Err c.in-Err.fault) = cc in
    by_block_fault c.in-Err.fault _ c.of_block.result (Unit {0})
    (BlocksPassed c.args.input.now c.args.cursor.now c.each.cursor c.args.described.now.items c.each.described.items []
    × IsFault c.args.input.now c.each.cursor c.each.described.items c.of_block.result)
    c.of_block.ensures (
      c.each.invariant.passed,
      fault_at c.args.input.now c.each.cursor c.each.described.items c.in-Err.fault c.of_block.result front c.of_block.ensures,
    )

pub pass-requires : goal.pass-requires
pass-requires c =
    let front : IsFront c.args.input.now c.each.cursor c.each.described.items (Ok (Some c.in-Ok-Some.whole)) = cc in
    whole_room c.args.input.now c.each.cursor c.each.described.items c.in-Ok-Some.whole c.each.invariant.passed.lies front

pub each-smaller : goal.each-smaller
each-smaller c =
    let front : IsFront c.args.input.now c.each.cursor c.each.described.items (Ok (Some c.in-Ok-Some.whole)) = cc in
    passes_shorter c.args.input.now c.each.cursor c.pass.new.cursor c.each.described.items c.pass.new.described.items c.in-Ok-Some.whole
    front c.in_ok-pass.ensures.ok

pub each-preserved : goal.each-preserved
each-preserved c =
    let front : IsFront c.args.input.now c.each.cursor c.each.described.items (Ok (Some c.in-Ok-Some.whole)) = cc in
    record {
      kept = kept_both c.args.described.now.items c.each.described.items c.pass.new.described.items c.each.invariant.kept
          c.pass.ensures.kept;
      passed = passed_other c.args.input.now c.args.cursor.now c.each.cursor c.pass.new.cursor c.args.described.now.items c.each.described.items
          c.pass.new.described.items c.in-Ok-Some.whole c.each.invariant.passed front c.in_ok-pass.ensures.ok c.in_default.not-Packet;
    }
