use Rattle.intent_compiler.proofs.IntentKeeping.{keeps_crosses, keeps_met, met_keeps}
use Rattle.intent_compiler.proofs.laws.traces_that_keep_to_steps_cross_their_links.Goals as goal

pub returns-clause-met : goal.returns-clause-met
returns-clause-met c = met_keeps

pub returns-clause-strict : goal.returns-clause-strict
returns-clause-strict c = keeps_met

pub returns-clause-links : goal.returns-clause-links
returns-clause-links c = keeps_crosses
