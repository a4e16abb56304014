-- Need not be believed: helps proofs and other laws.
-- What a write to a sink in memory does.
use Rattle.std.specs.Prelude.{◌≡◌, ◌==◌, ℕ, true, false, ◌<◌, ◌++◌, List, length, Contains, Result, Ok, Err, if◌then◌else◌}
use Rattle.srx_edge.specs.Edge.{next_count}
use Rattle.srx_edge.specs.Fakes.{SinkState, SureSinkState}
use Rattle.srx_edge.specs.declared.output.SinkFault.{SinkFault}
use Rattle.srx_edge.specs.declared.output.SinkFault.TheVariants.{Failed, NoMemory}

-- the next write fails
abbrev pub FailsNext : SinkState → Type 0
FailsNext sink = Contains sink.fails (next_count sink.calls)

-- the sink after a write of all of the piece; one of an empty piece isn't counted
abbrev pub after_write : List ℕ → SinkState → SinkState
after_write piece sink =
    if length piece == 0 then sink else record sink { held = sink.held ++ piece; calls = next_count sink.calls; stopped = false }

-- the sink after a write that failed
abbrev pub after_fault : SinkState → SinkState
after_fault sink = record sink { calls = next_count sink.calls; faults = next_count sink.faults; stopped = true }

-- the sink after a write for which memory was wanting
abbrev pub after_want : SinkState → SinkState
after_want sink = record sink { wants = next_count sink.wants; stopped = true }

-- a write takes the whole piece, unless it is one of those that fail, or memory is wanting
abbrev pub MemWrites : List ℕ → Result ℕ SinkFault → SinkState → SinkState → Type 0
MemWrites piece (Ok count) old new = (count ≡ length piece) × (new ≡ after_write piece old) × (0 < length piece → ¬ FailsNext old)
MemWrites piece (Err Failed) old new = (0 < length piece) × FailsNext old × (new ≡ after_fault old)
MemWrites piece (Err NoMemory) old new = (0 < length piece) × (¬ FailsNext old) × (new ≡ after_want old)

-- a write to a sure sink takes the whole piece, unless memory is wanting, which it isn't for an empty one
abbrev pub after_sure_write : List ℕ → SureSinkState → SureSinkState
after_sure_write piece sink = if length piece == 0 then sink else record sink { held = sink.held ++ piece; stopped = false }

abbrev pub SurelyWrites : List ℕ → Result ℕ SinkFault → SureSinkState → SureSinkState → Type 0
SurelyWrites piece (Ok count) old new = (count ≡ length piece) × (new ≡ after_sure_write piece old)
SurelyWrites piece (Err Failed) old new = ⊥
SurelyWrites piece (Err NoMemory) old new = (0 < length piece) × (new ≡ record old { wants = next_count old.wants; stopped = true })
