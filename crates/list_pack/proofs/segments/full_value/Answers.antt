use Rattle.std.proofs.Common.{◌≡◌, ◌-◌, ◌+◌, drop}
use Rattle.v6_addr.specs.Address.{field_of, with_field_of}
use Rattle.srv6_rules.specs.Compressed.{packed}
use Rattle.list_pack.proofs.ValueSums.{drop_got, full_step}
use Rattle.list_pack.proofs.segments.full_value.Goals as goal

pub loop-sid-preserved : goal.loop-sid-preserved
loop-sid-preserved c =
    let is : c.with_field-value.result.value
    ≡ with_field_of c.loop-sid.value.value c.loop-sid.at (c.len.result - c.args.block_bits)
    (field_of c.sid-item.result.value c.args.block_bits (c.len.result - c.args.block_bits)) =
    cc (c.with_field-value.ensures.value, c.field.ensures.value, c.value.ensures.value) in
    let width : c.len.result - c.args.block_bits ≡ c.sid-item.result.len - c.args.block_bits = cc (c.len.ensures.len) in
    let item = drop_got c.args.more.now c.loop-sid.sid-index c.sid-item.result c.loop-sid-test.true c.sid-item.is in
    let step = full_step c.args.block_bits c.loop-sid.at c.loop-sid.value.value c.with_field-value.result.value
    (c.args.first.now.value + packed c.args.block_bits (128 - c.args.first.now.len) c.args.more.now)
    (c.len.result - c.args.block_bits) (drop c.loop-sid.sid-index c.args.more.now) (drop (c.loop-sid.sid-index + 1) c.args.more.now)
    c.sid-item.result item c.loop-sid.invariant.told c.loop-sid.invariant.clear c.loop-sid.invariant.fits width is in
    record { told = step.told; clear = step.clear; fits = step.fits; within = step.within }
