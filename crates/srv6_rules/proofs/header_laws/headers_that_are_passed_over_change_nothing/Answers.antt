use Rattle.srv6_rules.proofs.PacketReached.{over_passed, over_all_passed}
use Rattle.srv6_rules.proofs.header_laws.headers_that_are_passed_over_change_nothing.Goals as goal

pub returns-clause-before : goal.returns-clause-before
returns-clause-before c = over_passed

pub returns-clause-end : goal.returns-clause-end
returns-clause-end c = over_all_passed
