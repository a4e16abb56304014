use Rattle.intent_traces.proofs.Splits.{follows_iff, part_one}
use Rattle.intent_traces.proofs.laws.traces_split_in_one_way.Goals as goal

pub returns : goal.returns
returns c = record { follows = follows_iff; one = part_one }
