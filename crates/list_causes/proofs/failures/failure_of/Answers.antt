use Rattle.intent_reader.proofs.IntentKeepsLemmas.{keeps_from_intent}
use Rattle.list_causes.proofs.failures.failure_of.Goals as goal

pub entering-requires : goal.entering-requires
entering-requires c = (keeps_from_intent c.args.net.now c.args.intent.now c.requires).flow_label
