use Rattle.srv6_rules.proofs.AreaItems.{area_fault_within, options_fault_within, tlvs_fault_within}
use Rattle.srv6_rules.proofs.area_laws.fault_of_an_item_has_its_place_in_the_header.Goals as goal

pub returns-clause-area : goal.returns-clause-area
returns-clause-area c = area_fault_within

pub returns-clause-options : goal.returns-clause-options
returns-clause-options c = options_fault_within

pub returns-clause-segment_routing : goal.returns-clause-segment_routing
returns-clause-segment_routing c = tlvs_fault_within
