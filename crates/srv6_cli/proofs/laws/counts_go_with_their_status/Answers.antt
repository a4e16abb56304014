use Rattle.srv6_cli.proofs.Consequences.{one_fault, no_fault, no_want}
use Rattle.srv6_cli.proofs.laws.counts_go_with_their_status.Goals as goal

pub returns-clause-fault : goal.returns-clause-fault
returns-clause-fault c = one_fault

pub returns-clause-no_fault : goal.returns-clause-no_fault
returns-clause-no_fault c = no_fault

pub returns-clause-no_want : goal.returns-clause-no_want
returns-clause-no_want c = no_want
