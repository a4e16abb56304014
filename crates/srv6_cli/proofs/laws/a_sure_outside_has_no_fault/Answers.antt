use Rattle.srv6_cli.proofs.Sureness.{none_fails_over_sure, sure_outside_holds}
use Rattle.srv6_cli.proofs.laws.a_sure_outside_has_no_fault.Goals as goal

pub returns-clause-sure : goal.returns-clause-sure
returns-clause-sure c = sure_outside_holds

pub returns-clause-memory : goal.returns-clause-memory
returns-clause-memory c = none_fails_over_sure
