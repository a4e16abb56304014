use Rattle.std.proofs.Common.{◌≡◌, ◌+◌, ◌^◌, ◌<◌, length}
use Rattle.srv6_rules.specs.Areas.{area_fault, option_fault}
use Rattle.ip6_headers.proofs.areas.area_options_fault.Given as goal

abbrev pub invariant-options : goal.invariant-options
invariant-options l = record {
  same : area_fault option_fault 0 l.start l.options ≡ area_fault option_fault 0 l.at l.rest;
  fits : l.at + length l.rest < 2 ^ 64;
}

abbrev pub decreases-options : goal.decreases-options
decreases-options l = length l.rest
