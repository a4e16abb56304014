use Rattle.srv6_cli.proofs.Consequences.{after_files_fault, after_input_fault, after_out_fault, after_err_fault}
use Rattle.srv6_cli.proofs.laws.a_fault_is_the_last_thing.Goals as goal

pub returns-clause-files : goal.returns-clause-files
returns-clause-files c = after_files_fault

pub returns-clause-input : goal.returns-clause-input
returns-clause-input c = after_input_fault

pub returns-clause-out : goal.returns-clause-out
returns-clause-out c = after_out_fault

pub returns-clause-err : goal.returns-clause-err
returns-clause-err c = after_err_fault
