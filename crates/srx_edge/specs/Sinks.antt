-- What is seen of a sink, and what its calls do.
use Rattle.std.specs.Prelude.{◌≡◌, ℕ, ◌<◌, ◌≤◌, Bool, true, false, ◌&&◌, ◌==◌, not, List, [], ◌∷◌, length, take, Option, Result, Ok, Err, if◌then◌else◌}
use Rattle.srx_edge.specs.declared.output.SinkFault.{SinkFault}
use Rattle.srx_edge.specs.declared.output.SinkFault.TheVariants as faults
use Rattle.srx_edge.specs.Edge.{next_count, append_to}

-- what is seen of a sink
pub record SinkSeen : Type 0 where
  pub held : Option (List ℕ)  -- the bytes that it holds, where they are told
  pub faults : ℕ  -- the writes that failed, or took no byte of a piece that isn't empty
  pub wants : ℕ  -- the writes that answered NoMemory
  pub stopped : Bool  -- whether the last write of a piece that isn't empty was one of these

-- the sink once bytes have gone out; none leave it as it was
abbrev pub sent : List ℕ → SinkSeen → SinkSeen
sent [] sink = sink
sent (byte ∷ bytes) sink = record sink { held = append_to (byte ∷ bytes) sink.held; stopped = false }

-- the sink after a write that failed
abbrev pub failed : SinkSeen → SinkSeen
failed sink = record sink { faults = next_count sink.faults; stopped = true }

-- the sink after a write for which memory was wanting
abbrev pub wanting : SinkSeen → SinkSeen
wanting sink = record sink { wants = next_count sink.wants; stopped = true }

-- a write of a piece that isn't empty took no byte of it
abbrev pub is_stuck : List ℕ → ℕ → Bool
is_stuck piece count = (count == 0) && not (length piece == 0)

-- a write appends the first bytes of the piece and says how many they are; one that fails, or takes no byte of a piece
-- that isn't empty, appends nothing and is one fault; one for which memory is wanting appends nothing and is one want;
-- either stops the sink; an empty piece changes nothing
abbrev pub Writes : List ℕ → Result ℕ SinkFault → SinkSeen → SinkSeen → Type 0
Writes piece (Ok count) old new =
    (count ≤ length piece) × (new ≡ (if is_stuck piece count then failed old else sent (take count piece) old))
Writes piece (Err faults.Failed) old new = (0 < length piece) × (new ≡ failed old)
Writes piece (Err faults.NoMemory) old new = (0 < length piece) × (new ≡ wanting old)
