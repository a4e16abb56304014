use Rattle.intent_reader.proofs.IntentKeepsLemmas.{stays_within}
use Rattle.intent_reader.proofs.laws.walks_stay_at_nodes.Goals as goal

pub returns : goal.returns
returns c = stays_within
