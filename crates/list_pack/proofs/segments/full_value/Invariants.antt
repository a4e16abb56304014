use Rattle.std.proofs.Common.{◌≡◌, ◌+◌, ◌-◌, ◌%◌, ◌^◌, ◌≤◌, drop}
use Rattle.srv6_rules.specs.Compressed.{packed}
use Rattle.list_pack.specs.SegmentValues.{FitBehind}
use Rattle.list_pack.proofs.segments.full_value.Given as goal

-- the CSIDs so far and those that are left are all; nothing stands after those so far, and the others fit there
abbrev pub invariant-loop-sid : goal.invariant-loop-sid
invariant-loop-sid l = record {
  told : l.value.value + packed l.block_bits (128 - l.at) (drop l.sid-index l.more)
      ≡ l.first.value + packed l.block_bits (128 - l.first.len) l.more;
  clear : l.value.value % 2 ^ (128 - l.at) ≡ 0;
  fits : FitBehind l.block_bits l.at (drop l.sid-index l.more);
  within : l.at ≤ 128;
}
