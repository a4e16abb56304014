use Rattle.intent_reader.proofs.WalkLemmas.{step_means}
use Rattle.intent_reader.proofs.laws.steps_lead_on.Goals as goal

pub returns : goal.returns
returns c = step_means
