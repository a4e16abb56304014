use Rattle.srv6_rules.proofs.PolicyLaws.{round_ipv6, round_with_header, round_without_header, round_header_bytes}
use Rattle.srv6_rules.proofs.policy_laws.last_header_names_the_inner_family.Goals as goal

pub returns-clause-ipv6 : goal.returns-clause-ipv6
returns-clause-ipv6 c = round_ipv6

pub returns-clause-with_header : goal.returns-clause-with_header
returns-clause-with_header c = round_with_header

pub returns-clause-header : goal.returns-clause-header
returns-clause-header c = round_header_bytes

pub returns-clause-without_header : goal.returns-clause-without_header
returns-clause-without_header c = round_without_header
