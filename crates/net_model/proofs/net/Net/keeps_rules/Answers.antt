use Rattle.std.proofs.Common.{subst}
use Rattle.net_model.specs.NetworkRulesTerms.{IsNetwork}
use Rattle.net_model.specs.NetworkJudgingTerms.{InRange}
use Rattle.net_model.proofs.NetworkKeepsLemmas.{keeps_from_network}
use Rattle.net_model.proofs.HiddenLemmas.{rules_with, range_with}
use Rattle.net_model.proofs.net.Net.keeps_rules.Goals as goal

pub returns-clause-network : goal.returns-clause-network
returns-clause-network c = subst IsNetwork c.self.view_is (rules_with c.self.inside.parts c.self.inside.hidden c.self.invariant.rules)

pub returns-clause-range : goal.returns-clause-range
returns-clause-range c = subst InRange c.self.view_is (range_with c.self.inside.parts c.self.inside.hidden c.self.invariant.range)

pub returns-clause-facts : goal.returns-clause-facts
returns-clause-facts c =
    keeps_from_network c.args.self.now
    (subst IsNetwork c.self.view_is (rules_with c.self.inside.parts c.self.inside.hidden c.self.invariant.rules))
