use Rattle.srv6_rules.proofs.Flavours.{at_sid_lowers, at_sid_shorter, at_sid_fields, at_sid_spellable}
use Rattle.srv6_rules.proofs.sid_laws.onward_lowers_the_hop_limit_by_one.Goals as goal

pub returns-clause-hop_limit : goal.returns-clause-hop_limit
returns-clause-hop_limit c = at_sid_lowers

pub returns-clause-length : goal.returns-clause-length
returns-clause-length c = at_sid_shorter

pub returns-clause-fields : goal.returns-clause-fields
returns-clause-fields c = at_sid_fields

pub returns-clause-spellable : goal.returns-clause-spellable
returns-clause-spellable c = at_sid_spellable
