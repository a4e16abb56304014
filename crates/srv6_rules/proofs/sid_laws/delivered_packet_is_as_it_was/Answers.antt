use Rattle.srv6_rules.proofs.Flavours.{at_sid_delivered_fields, at_sid_delivered_spellable}
use Rattle.srv6_rules.proofs.EndpointSteps.{at_sid_delivered, at_address_delivered, at_address_not_onward, at_address_not_exposed}
use Rattle.srv6_rules.proofs.sid_laws.delivered_packet_is_as_it_was.Goals as goal

pub returns-clause-at_sid : goal.returns-clause-at_sid
returns-clause-at_sid c = at_sid_delivered

pub returns-clause-at_address : goal.returns-clause-at_address
returns-clause-at_address c = at_address_delivered

pub returns-clause-onward : goal.returns-clause-onward
returns-clause-onward c = at_address_not_onward

pub returns-clause-exposed : goal.returns-clause-exposed
returns-clause-exposed c = at_address_not_exposed

pub returns-clause-fields : goal.returns-clause-fields
returns-clause-fields c = at_sid_delivered_fields

pub returns-clause-spellable : goal.returns-clause-spellable
returns-clause-spellable c = at_sid_delivered_spellable
