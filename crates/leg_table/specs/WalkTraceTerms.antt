-- Need not be believed: helps proofs and other laws.
-- Terms beside those of `specs/WalkTrace.antt`.
use Rattle.std.specs.Prelude.{List, [], ◌∷◌, ◌++◌}
use Rattle.net_model.specs.Network.{Network}
use Rattle.walk_rules.specs.Walk as walks
use Rattle.leg_table.specs.WalkTrace.{TraceEvent, events_of}

-- the trace of stages
abbrev pub trace_of : Network → List walks.Stage → List TraceEvent
trace_of net [] = []
trace_of net (s ∷ ss) = events_of net s.gave.outcome ++ trace_of net ss
