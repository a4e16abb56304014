use Rattle.intent_reader.proofs.NoFaultLemmas.{no_fault_is_keeping}
use Rattle.intent_reader.proofs.laws.no_fault_is_keeping_the_rules.Goals as goal

pub returns : goal.returns
returns c = no_fault_is_keeping
