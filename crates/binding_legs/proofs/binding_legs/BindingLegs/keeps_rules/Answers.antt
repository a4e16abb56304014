use Rattle.std.proofs.Common.{subst}
use Rattle.net_model.specs.NetworkKeeps.{Keeps}
use Rattle.net_model.specs.NetworkRulesTerms.{IsNetwork}
use Rattle.net_flatness.specs.Flat.{IsFlat}
use Rattle.intent_reader.specs.IntentRulesTerms.{IsIntent}
use Rattle.leg_table.specs.StrictTableTerms.{LegTable}
use Rattle.binding_legs.proofs.binding_legs.BindingLegs.keeps_rules.Goals as goal

pub returns-clause-network : goal.returns-clause-network
returns-clause-network c = subst (λ (t : LegTable). IsNetwork t.net) c.strict.ensures c.keeps_rules.ensures.network

pub returns-clause-facts : goal.returns-clause-facts
returns-clause-facts c = subst (λ (t : LegTable). Keeps t.net) c.strict.ensures c.keeps_rules.ensures.facts

pub returns-clause-flat : goal.returns-clause-flat
returns-clause-flat c = subst (λ (t : LegTable). IsFlat t.net) c.strict.ensures c.keeps_rules.ensures.flat

pub returns-clause-intent : goal.returns-clause-intent
returns-clause-intent c = subst (λ (t : LegTable). IsIntent t.net t.intent) c.strict.ensures c.keeps_rules.ensures.intent
