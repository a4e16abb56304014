use Rattle.srv6_rules.proofs.EndpointSteps.{at_sid_place, at_address_place}
use Rattle.srv6_rules.proofs.sid_laws.fault_has_its_place_in_the_packet.Goals as goal

pub returns-clause-at_sid : goal.returns-clause-at_sid
returns-clause-at_sid c = at_sid_place

pub returns-clause-at_address : goal.returns-clause-at_address
returns-clause-at_address c = at_address_place
