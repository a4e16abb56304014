use Rattle.std.proofs.Common.{drop, map}
use Rattle.std.specs.Prelude.{IfSome}
use Rattle.std.specs.Option.{option_map}
use Rattle.list_pack.specs.SegmentValues.{addr_value}
use Rattle.list_pack.specs.SidLists.{sid_block}
use Rattle.segment_reading.specs.Readings.{IsSized}
use Rattle.segment_reading.proofs.ListReads.{ListReads}
use Rattle.segment_reading.proofs.reading.list_at.Given as goal

-- the containers at the addresses so far were read
abbrev pub invariant-loop-address : goal.invariant-loop-address
invariant-loop-address l = record {
  reads : ListReads l.net (map addr_value l.segments) l.list.items (option_map sid_block l.asked)
      (map addr_value (drop l.address-index l.segments));
  sized : IfSome l.asked IsSized;
}
