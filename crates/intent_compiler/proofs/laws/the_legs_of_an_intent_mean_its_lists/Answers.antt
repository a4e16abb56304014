use Rattle.intent_compiler.proofs.IntentAnswering.{laws_for, means_for, sids_for, cost_for}
use Rattle.intent_compiler.proofs.laws.the_legs_of_an_intent_mean_its_lists.Goals as goal

pub returns-clause-laws : goal.returns-clause-laws
returns-clause-laws c = laws_for

pub returns-clause-means : goal.returns-clause-means
returns-clause-means c = means_for

pub returns-clause-sids : goal.returns-clause-sids
returns-clause-sids c = sids_for

pub returns-clause-sid_cost : goal.returns-clause-sid_cost
returns-clause-sid_cost c = cost_for
