use Rattle.srv6_rules.proofs.Treatments.{first_passed, late_refused, options_passed, options_refused, fragment_refused}
use Rattle.srv6_rules.proofs.header_laws.header_is_passed_over_or_refused_by_its_kind.Goals as goal

pub returns-clause-first : goal.returns-clause-first
returns-clause-first c = first_passed

pub returns-clause-late : goal.returns-clause-late
returns-clause-late c = late_refused

pub returns-clause-options : goal.returns-clause-options
returns-clause-options c = options_passed

pub returns-clause-fault : goal.returns-clause-fault
returns-clause-fault c = options_refused

pub returns-clause-fragment : goal.returns-clause-fragment
returns-clause-fragment c = fragment_refused
