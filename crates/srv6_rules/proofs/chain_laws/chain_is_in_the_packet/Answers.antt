use Rattle.srv6_rules.proofs.Chains.{header_in_lies, extension_bytes_least, chain_at_lies, chain_at_ends, chain_at_upper_stands}
use Rattle.srv6_rules.proofs.chain_laws.chain_is_in_the_packet.Goals as goal

pub returns-clause-header : goal.returns-clause-header
returns-clause-header c = header_in_lies

pub returns-clause-least : goal.returns-clause-least
returns-clause-least c = extension_bytes_least

pub returns-clause-headers : goal.returns-clause-headers
returns-clause-headers c = chain_at_lies

pub returns-clause-ends : goal.returns-clause-ends
returns-clause-ends c = chain_at_ends

pub returns-clause-upper : goal.returns-clause-upper
returns-clause-upper c = chain_at_upper_stands
