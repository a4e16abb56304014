use Rattle.intent_compiler.proofs.IntentAnswering.{one_answer_for}
use Rattle.intent_compiler.proofs.laws.an_intent_has_one_answer.Goals as goal

pub returns : goal.returns
returns c = one_answer_for
