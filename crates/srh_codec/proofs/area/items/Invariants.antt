use Rattle.std.proofs.Common.{◌≡◌, ◌+◌, ◌^◌, ◌<◌, length}
use Rattle.srv6_rules.specs.Areas.{area_fault, tlv_fault}
use Rattle.srh_codec.proofs.area.items.Given as goal

abbrev pub invariant-items : goal.invariant-items
invariant-items l = record {
  same : area_fault tlv_fault 0 l.start l.area ≡ area_fault tlv_fault 0 l.at l.rest;
  fits : l.at + length l.rest < 2 ^ 64;
}

abbrev pub decreases-items : goal.decreases-items
decreases-items l = length l.rest
