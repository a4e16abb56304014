use Rattle.srv6_rules.specs.Endpoint.{at_header}
use Rattle.srv6_rules.specs.EndpointTerms.{IsPassed, IsSkipped, Decides}
use Rattle.srv6_rules.proofs.PacketReached.{first_there, over_decides}
use Rattle.srv6_rules.proofs.HeadersAtSids.{at_header_either, at_header_skipped, at_address_header_either}
use Rattle.srv6_rules.proofs.header_laws.first_header_that_is_not_passed_over_decides.Goals as goal

pub returns-clause-at_sid : goal.returns-clause-at_sid
returns-clause-at_sid c = at_header_skipped

pub returns-clause-at_address : goal.returns-clause-at_address
returns-clause-at_address c = at_address_header_either

pub returns-clause-first : goal.returns-clause-first
returns-clause-first c treat = first_there (IsPassed treat) (Decides treat)

pub returns-clause-decides : goal.returns-clause-decides
returns-clause-decides c = over_decides

pub returns-clause-without_usp : goal.returns-clause-without_usp
returns-clause-without_usp c = at_header_either

pub returns-clause-first_at_sid : goal.returns-clause-first_at_sid
returns-clause-first_at_sid c s p headers = first_there (IsSkipped s p) (Decides (at_header s p)) headers (λ h. at_header_skipped s p h)
