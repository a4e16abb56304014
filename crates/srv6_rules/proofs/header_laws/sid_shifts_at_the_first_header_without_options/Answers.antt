use Rattle.srv6_rules.proofs.HeadersAtSids.{at_header_shifts, at_header_options, plain_whole}
use Rattle.srv6_rules.proofs.Endpoints.{upper_shifts}
use Rattle.srv6_rules.proofs.EndpointSteps.{at_sid_shifted}
use Rattle.srv6_rules.proofs.header_laws.sid_shifts_at_the_first_header_without_options.Goals as goal

pub returns-clause-shifts : goal.returns-clause-shifts
returns-clause-shifts c = at_header_shifts

pub returns-clause-upper : goal.returns-clause-upper
returns-clause-upper c = upper_shifts

pub returns-clause-options : goal.returns-clause-options
returns-clause-options c = at_header_options

pub returns-clause-onward : goal.returns-clause-onward
returns-clause-onward c = at_sid_shifted

pub returns-clause-plain : goal.returns-clause-plain
returns-clause-plain c = plain_whole
