use Rattle.intent_traces.proofs.Splits.{leaves_iff}
use Rattle.intent_traces.proofs.laws.left_steps_are_a_state.Goals as goal

pub returns : goal.returns
returns c = leaves_iff
