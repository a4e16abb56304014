use Rattle.intent_traces.proofs.Splits.{strict_each}
use Rattle.intent_traces.proofs.laws.strict_steps_meet_one_event_each.Goals as goal

pub returns : goal.returns
returns c = strict_each
