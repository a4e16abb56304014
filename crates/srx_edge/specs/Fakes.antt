-- Need not be believed: helps proofs and other laws.
-- What is seen of the fakes in memory: what they tell, and the plan of their faults.
use Rattle.std.specs.Prelude.{ℕ, Bool, false, List, Some}
use Rattle.srx_edge.specs.Sinks.{SinkSeen}
use Rattle.srx_edge.specs.Sources.{SourceSeen}

-- a sink in memory
pub record SinkState : Type 0 where
  pub held : List ℕ
  pub fails : List ℕ  -- the numbers of the writes that fail, counted from 1
  pub calls : ℕ  -- the writes so far that passed or failed, of pieces that weren't empty
  pub faults : ℕ  -- those that failed
  pub wants : ℕ  -- the writes so far that answered NoMemory
  pub stopped : Bool  -- whether the last write of a piece that wasn't empty failed or answered NoMemory

abbrev pub sink_seen : SinkState → SinkSeen
sink_seen sink = record { held = Some sink.held; faults = sink.faults; wants = sink.wants; stopped = sink.stopped }

-- a sink in memory that never fails
pub record SureSinkState : Type 0 where
  pub held : List ℕ
  pub wants : ℕ  -- the writes so far that answered NoMemory
  pub stopped : Bool  -- whether the last write of a piece that wasn't empty answered NoMemory

abbrev pub sure_sink_seen : SureSinkState → SinkSeen
sure_sink_seen sink = record { held = Some sink.held; faults = 0; wants = sink.wants; stopped = sink.stopped }

-- a source in memory
pub record SourceState : Type 0 where
  pub left : List ℕ
  pub fails : List ℕ  -- the numbers of the reads that fail, counted from 1
  pub calls : ℕ  -- the reads so far, into slices that weren't empty
  pub faults : ℕ  -- those that failed
  pub ends : ℕ  -- those that found the end
  pub stopped : Bool  -- whether the last of those reads failed

abbrev pub source_seen : SourceState → SourceSeen
source_seen source = record { left = Some source.left; faults = source.faults; ends = source.ends; stopped = source.stopped }

-- a source in memory that never fails
pub record SureSourceState : Type 0 where
  pub left : List ℕ
  pub ends : ℕ  -- the reads into slices that weren't empty that found the end

abbrev pub sure_source_seen : SureSourceState → SourceSeen
sure_source_seen source = record { left = Some source.left; faults = 0; ends = source.ends; stopped = false }

-- files in memory
pub record FilesState : Type 0 where
  pub files : List (List ℕ × List ℕ)  -- names with their bytes
  pub asked : List (List ℕ)  -- the names asked for, oldest first: one for each read so far but for those that answered NoMemory
  pub fails : List ℕ  -- the numbers of the reads that fail, counted from 1
  pub faults : ℕ  -- the reads that failed
  pub stopped : Bool  -- whether the last read but for those that answered NoMemory failed
