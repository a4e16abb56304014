use Rattle.intent_compiler.proofs.IntentAnswering.{says_handing_for}
use Rattle.intent_compiler.proofs.laws.a_verdict_speaks_of_lists_that_hand_over.Goals as goal

pub returns : goal.returns
returns c = says_handing_for
