use Rattle.std.proofs.Common.{◌≡◌, length}
use Rattle.segment_reading.proofs.PackedSteps.{PackedReads}
use Rattle.segment_reading.proofs.packed.packed_at.Given as goal

-- the SIDs at the places so far were read
abbrev pub invariant-loop-place : goal.invariant-loop-place
invariant-loop-place l = record {
  reads : PackedReads l.net l.block l.address.value l.prefixes.items;
  count : length l.prefixes.items ≡ l.place;
}
