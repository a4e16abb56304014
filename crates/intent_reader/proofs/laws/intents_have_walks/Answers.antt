use Rattle.intent_reader.proofs.IntentKeepsLemmas.{keeps_from_intent}
use Rattle.intent_reader.proofs.laws.intents_have_walks.Goals as goal

pub returns : goal.returns
returns c = keeps_from_intent
