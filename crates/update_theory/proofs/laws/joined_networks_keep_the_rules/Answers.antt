use Rattle.update_theory.proofs.PlanKeeping.{joined_rules, joined_range}
use Rattle.update_theory.proofs.laws.joined_networks_keep_the_rules.Goals as goal

pub returns-clause-rules : goal.returns-clause-rules
returns-clause-rules c = joined_rules

pub returns-clause-range : goal.returns-clause-range
returns-clause-range c = joined_range
