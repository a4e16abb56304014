use Rattle.net_model.proofs.PublicLaws.{exact_law}
use Rattle.net_without.proofs.Keeping.{left_rules, left_range}
use Rattle.net_without.specs.Without.{network_left}
use Rattle.net_without.proofs.laws.networks_left_keep_the_rules.Goals as goal

pub returns-clause-rules : goal.returns-clause-rules
returns-clause-rules c = left_rules

pub returns-clause-range : goal.returns-clause-range
returns-clause-range c = left_range

pub returns-clause-faultless : goal.returns-clause-faultless
returns-clause-faultless c net up rules range = (exact_law (network_left up net) (left_range net up range)).1 (left_rules net up rules range)
