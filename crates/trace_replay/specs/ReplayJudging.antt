-- Need not be believed: helps proofs and other laws.
-- What the code's judgements say.
use Rattle.std.specs.Prelude.{◌≡◌, List, ℕ, Some, None, Result, Ok, Err}
use Rattle.net_model.specs.Network.{Network}
use Rattle.walk_rules.specs.Relation.{IsPlace}
use Rattle.trace_replay.specs.declared.replay_flight.LineFault.{LineFault}
use Rattle.trace_replay.specs.declared.replay_flight.LineFault.TheVariants as faults
use Rattle.trace_replay.specs.declared.verdict.Replayed.{Replayed}
use Rattle.trace_replay.specs.declared.verdict.ReplayFault.{ReplayFault}
use Rattle.trace_replay.specs.declared.verdict.ReplayFault.TheVariants as replays
use Rattle.trace_replay.specs.declared.state.ReplayState.{ReplayState}
use Rattle.trace_replay.specs.declared.state.ReplayState.TheVariants as states
use Rattle.trace_replay.specs.Replays.{counts_of, first_wrong, line_judged}

-- a packet with a stage to come stands at a place of the network
abbrev pub IsState : Network → ReplayState → Type 0
IsState net states.Ended = Unit {0}
IsState net (states.Going place content left) = IsPlace net place
IsState net states.Stopped = Unit {0}

-- what comes of a line, or want of memory
abbrev pub JudgesLine : Network → ReplayState → List ℕ → Result ReplayState LineFault → Type 0
JudgesLine net state line (Ok next) = (line_judged net state line ≡ Ok next) × IsState net next
JudgesLine net state line (Err (faults.Wrong expected)) = line_judged net state line ≡ Err expected
JudgesLine net state line (Err faults.NoMemory) = Unit {0}

-- a trace that is right, with its counts; its first wrong line; or want of memory
abbrev pub Replays : Network → List (List ℕ) → Result Replayed ReplayFault → Type 0
Replays net lines (Ok counts) = (first_wrong net lines ≡ None) × (counts ≡ counts_of lines)
Replays net lines (Err (replays.Mismatch line expected)) = first_wrong net lines ≡ Some (record { line = line; expected = expected })
Replays net lines (Err replays.NoMemory) = Unit {0}
