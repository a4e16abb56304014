use Rattle.std.proofs.Common.{◌≡◌, ◌++◌, drop, map}
use Rattle.list_pack.specs.SidLists.{list_values}
use Rattle.list_pack.specs.SegmentValues.{addr_value}
use Rattle.list_pack.proofs.segments.values.Given as goal

-- the values so far and those of the containers that are left are the list's
abbrev pub invariant-loop-container : goal.invariant-loop-container
invariant-loop-container l =
    map addr_value l.values.items ++ list_values l.net (drop l.container-index l.list) ≡ list_values l.net l.list
