use Rattle.std.proofs.Common.{◌∙◌, length, take, ap, arith}
use Rattle.pcapng_io.specs.Blocks.{body_of}
use Rattle.pcapng_io.proofs.NgPassed.{passes_some, limit_at, packet_within, passed_packet}
use Rattle.pcapng_io.proofs.cursor.next_frame.Goals as goal

pub returns-then-cursor-eq-MAX_FRAMES-clause-passed : goal.returns-then-cursor-eq-MAX_FRAMES-clause-passed
returns-then-cursor-eq-MAX_FRAMES-clause-passed c =
    let found = passes_some c.args.input.now c.args.cursor.now c.next_packet.new.cursor c.args.described.now.items
    c.next_packet.new.described.items c.in_ok-total.field-0 c.in-Some.field-0 c.in_ok-total.ensures.passed c.in-Some.is in (
      found.0,
      limit_at c.args.input.now c.next_packet.new.cursor c.next_packet.new.described.items c.in-Some.field-0 found.1
          c.if-cursor-eq-MAX_FRAMES.true,
    )

pub split_at-requires-2 : goal.split_at-requires-2
split_at-requires-2 c =
    let found = passes_some c.args.input.now c.args.cursor.now c.next_packet.new.cursor c.args.described.now.items
    c.next_packet.new.described.items c.in_ok-total.field-0 c.in-Some.field-0 c.in_ok-total.ensures.passed c.in-Some.is in
    let within = packet_within c.args.input.now c.next_packet.new.cursor c.next_packet.new.described.items c.in-Some.field-0 found.1 in
    let there = within.0 in
    let len = ap length c.split_at.ensures.back in
    omega (arith, len)

pub body_of-requires : goal.body_of-requires
body_of-requires c =
    let found = passes_some c.args.input.now c.args.cursor.now c.next_packet.new.cursor c.args.described.now.items
    c.next_packet.new.described.items c.in_ok-total.field-0 c.in-Some.field-0 c.in_ok-total.ensures.passed c.in-Some.is in
    let within = packet_within c.args.input.now c.next_packet.new.cursor c.next_packet.new.described.items c.in-Some.field-0 found.1 in
    let there = within.1 in
    let len = c.split_at-2.ensures.front_len in
    omega (arith, len)

pub returns-clause-passed : goal.returns-clause-passed
returns-clause-passed c =
    let found = passes_some c.args.input.now c.args.cursor.now c.next_packet.new.cursor c.args.described.now.items
    c.next_packet.new.described.items c.in_ok-total.field-0 c.in-Some.field-0 c.in_ok-total.ensures.passed c.in-Some.is in
    let block = c.split_at-2.ensures.front ∙ ap (take c.in-Some.field-0.total) c.split_at.ensures.back in
    passed_packet c.args.input.now c.args.cursor.now c.next_packet.new.cursor c.args.described.now.items c.next_packet.new.described.items
    c.in-Some.field-0 c.in_ok-body.body found.0 found.1 c.if-cursor-eq-MAX_FRAMES.false
    (c.in_ok-body.ensures ∙ ap (body_of c.in-Some.field-0.packet) block)
