use Rattle.srv6_rules.proofs.EndpointSteps.{at_sid_exposes, at_sid_exposed_packet, at_sid_exposed_packet4, at_sid_content, at_sid_exposed_back}
use Rattle.srv6_rules.proofs.PacketContents.{read_as_unreadable}
use Rattle.srv6_rules.proofs.sid_laws.decapsulation_changes_no_byte.Goals as goal

pub returns-clause-exposes : goal.returns-clause-exposes
returns-clause-exposes c = at_sid_exposes

pub returns-clause-packet : goal.returns-clause-packet
returns-clause-packet c = at_sid_exposed_packet

pub returns-clause-packet4 : goal.returns-clause-packet4
returns-clause-packet4 c = at_sid_exposed_packet4

pub returns-clause-unreadable : goal.returns-clause-unreadable
returns-clause-unreadable c = read_as_unreadable

pub returns-clause-content : goal.returns-clause-content
returns-clause-content c = at_sid_content

pub returns-clause-back : goal.returns-clause-back
returns-clause-back c = at_sid_exposed_back
