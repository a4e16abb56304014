use Rattle.srv6_rules.proofs.PolicyLaws.{by_length, by_inner}
use Rattle.srv6_rules.proofs.policy_laws.inner_packet_stands_behind_the_headers.Goals as goal

pub returns-clause-length : goal.returns-clause-length
returns-clause-length c = by_length

pub returns-clause-inner : goal.returns-clause-inner
returns-clause-inner c = by_inner
