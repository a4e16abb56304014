use Rattle.srv6_rules.proofs.HeadersAtSids.{at_header_passed, at_header_passed_other, at_header_taken_out, at_header_pops, at_header_steps, at_header_refuses, at_header_unknown, at_address_header_passed, at_address_header_refuses}
use Rattle.srv6_rules.proofs.header_laws.routing_header_is_passed_over_stepped_over_or_refused.Goals as goal

pub returns-clause-passed : goal.returns-clause-passed
returns-clause-passed c = at_header_passed

pub returns-clause-steps : goal.returns-clause-steps
returns-clause-steps c = at_header_steps

pub returns-clause-refuses : goal.returns-clause-refuses
returns-clause-refuses c = at_header_refuses

pub returns-clause-unknown : goal.returns-clause-unknown
returns-clause-unknown c = at_header_unknown

pub returns-clause-passed_at_address : goal.returns-clause-passed_at_address
returns-clause-passed_at_address c = at_address_header_passed

pub returns-clause-at_address : goal.returns-clause-at_address
returns-clause-at_address c = at_address_header_refuses

pub returns-clause-passed_other : goal.returns-clause-passed_other
returns-clause-passed_other c = at_header_passed_other

pub returns-clause-usp : goal.returns-clause-usp
returns-clause-usp c = at_header_taken_out

pub returns-clause-psp : goal.returns-clause-psp
returns-clause-psp c = at_header_pops
