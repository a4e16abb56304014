use Rattle.srv6_rules.proofs.ErrorLaws.{error_none, error_is_error, error_once, error_many}
use Rattle.srv6_rules.proofs.icmp.errors_are_not_answered.Goals as goal

pub returns-clause-none : goal.returns-clause-none
returns-clause-none c = error_none

pub returns-clause-made : goal.returns-clause-made
returns-clause-made c = error_is_error

pub returns-clause-once : goal.returns-clause-once
returns-clause-once c = error_once

pub returns-clause-multicast : goal.returns-clause-multicast
returns-clause-multicast c = error_many
