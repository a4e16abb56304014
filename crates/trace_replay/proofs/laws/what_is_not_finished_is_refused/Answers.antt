use Rattle.trace_replay.proofs.Unended.{unended_bad}
use Rattle.trace_replay.proofs.laws.what_is_not_finished_is_refused.Goals as goal

pub returns : goal.returns
returns c = λ net packets keeps each. unended_bad net keeps packets each
