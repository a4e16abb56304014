use Rattle.std.proofs.Common.{add-one}
use Rattle.trace_replay.proofs.ReplayPrinting.{walk_replays}
use Rattle.trace_replay.proofs.laws.printed_traces_replay.Goals as goal

pub returns : goal.returns
returns c = λ net place content pick taken left keeps is.
    rw (add-one left) (walk_replays net left place content pick taken keeps is)
