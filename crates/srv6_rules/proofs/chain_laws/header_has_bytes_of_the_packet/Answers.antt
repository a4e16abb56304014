use Rattle.srv6_rules.proofs.Chains.{lies_at, lies_spelled, lies_stated, lies_bytes}
use Rattle.srv6_rules.proofs.FlavourSteps.{as_in_lies}
use Rattle.srv6_rules.proofs.chain_laws.header_has_bytes_of_the_packet.Goals as goal

pub returns-clause-each : goal.returns-clause-each
returns-clause-each c = lies_at

pub returns-clause-spelled : goal.returns-clause-spelled
returns-clause-spelled c = lies_spelled

pub returns-clause-stated : goal.returns-clause-stated
returns-clause-stated c = lies_stated

pub returns-clause-below : goal.returns-clause-below
returns-clause-below c = lies_bytes

pub returns-clause-there : goal.returns-clause-there
returns-clause-there c = as_in_lies
