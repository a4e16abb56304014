use Rattle.std.proofs.Common.{◌≡◌, ◌+◌, ◌*◌, ◌^◌, ◌<◌, ◌≤◌, ◌∷◌, drop, length, map}
use Rattle.srv6_rules.specs.Compressed.{csid_of}
use Rattle.list_pack.specs.SegmentValues.{HaveCsids}
use Rattle.list_pack.proofs.ValueSums.{stacked}
use Rattle.list_pack.proofs.segments.packed_value.Given as goal

-- the CSIDs so far and those that are left are all; they stand in the bits after, and there is room for the others
abbrev pub invariant-loop-sid : goal.invariant-loop-sid
invariant-loop-sid l = record {
  told : l.value.value + stacked l.block.csid l.behind (map (csid_of l.block.prefix.len) (drop l.sid-index l.more))
      ≡ stacked l.block.csid 0 (map (csid_of l.block.prefix.len) (l.first ∷ l.more));
  below : l.value.value < 2 ^ l.behind;
  long : HaveCsids l.block.prefix.len l.block.csid (drop l.sid-index l.more);
  room : l.behind + l.block.csid * length (drop l.sid-index l.more) ≤ 128;
}
