use Rattle.prefix_table.proofs.TableEditLemmas.{one_from, one_to, there_tells, value_tells}
use Rattle.prefix_table.proofs.laws.values_are_of_entries.Goals as goal

pub returns-clause-one : goal.returns-clause-one
returns-clause-one g c = λ p q. (one_from p q, one_to p q)

pub returns-clause-there : goal.returns-clause-there
returns-clause-there g c = there_tells

pub returns-clause-value : goal.returns-clause-value
returns-clause-value g c = value_tells
