use Rattle.net_model.proofs.SidLaws.{exact_law, enough_law}
use Rattle.net_model.proofs.laws.no_fault_is_keeping_the_rules.Goals as goal

pub returns-clause-exact : goal.returns-clause-exact
returns-clause-exact c = exact_law

pub returns-clause-enough : goal.returns-clause-enough
returns-clause-enough c = enough_law
