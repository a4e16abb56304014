use Rattle.srv6_rules.proofs.ErrorLaws.{error_start, error_goes_on, error_behind}
use Rattle.srv6_rules.proofs.icmp.error_is_found_along_the_chain.Goals as goal

pub returns-clause-start : goal.returns-clause-start
returns-clause-start c = error_start

pub returns-clause-each : goal.returns-clause-each
returns-clause-each c = error_goes_on

pub returns-clause-header : goal.returns-clause-header
returns-clause-header c = error_behind
