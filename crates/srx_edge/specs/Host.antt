-- Need not be believed: helps proofs and other laws.
-- What is seen of the adapters: what they stand on, and what they count. Streams tell nothing.
use Rattle.std.specs.Prelude.{◌≡◌, ℕ, ◌<◌, ◌≤◌, false, List, length, Option, None, Some, IfSome, IsSomeAnd, Result, Ok, Err, ⊤}
use Rattle.std.specs.Global.{Vec}
use Rattle.srx_edge.specs.Edge.{file_named}
use Rattle.srx_edge.specs.FilesRead.{FilesSeen}
use Rattle.srx_edge.specs.Sources.{SourceSeen}
use Rattle.srx_edge.specs.Sinks.{SinkSeen}
use Rattle.srx_edge.specs.declared.file_access.FileFault.{FileFault}
use Rattle.srx_edge.specs.declared.file_access.FileFault.TheVariants as faults
use Rattle.srx_edge.specs.declared.output.SinkFault.{SinkFault}
use Rattle.srx_edge.specs.declared.output.SinkFault.TheVariants as sinks
use Rattle.srx_edge.specs.declared.host_files.HostFiles.{HostFiles}
use Rattle.srx_edge.specs.declared.host_source.HostSource.{HostSource}
use Rattle.srx_edge.specs.declared.host_sink.HostSink.{HostSink}

abbrev pub opener_of : {O : Type 0} → HostFiles O → O
opener_of files = files.opener

-- they tell what their opener tells
abbrev pub host_files_seen : {O : Type 0} → (O → Option (List (List ℕ × List ℕ))) → HostFiles O → FilesSeen
host_files_seen told files =
    record { told = told files.opener; asked = None; faults = files.faults; stopped = files.stopped; sure = false }

abbrev pub reader_of : {R : Type 0} → HostSource R → R
reader_of source = source.reader

abbrev pub host_source_seen : {R : Type 0} → HostSource R → SourceSeen
host_source_seen source = record { left = None; faults = source.faults; ends = source.ends; stopped = source.stopped }

abbrev pub writer_of : {W : Type 0} → HostSink W → W
writer_of sink = sink.writer

-- an adapter's sink never answers NoMemory
abbrev pub host_sink_seen : {W : Type 0} → HostSink W → SinkSeen
host_sink_seen sink = record { held = None; faults = sink.faults; wants = 0; stopped = sink.stopped }

-- what is fetched of a file is within the limit, and is the file of this name where files are told; a refusal names the limit
abbrev pub Fetched : List ℕ → ℕ → Option (List (List ℕ × List ℕ)) → Result (Vec ℕ) FileFault → Type 0
Fetched name limit told (Ok bytes) = (length bytes.items ≤ limit) × IfSome told (λ files. file_named files name ≡ Some bytes.items)
Fetched name limit told (Err faults.Failed) = ⊤
Fetched name limit told (Err (faults.TooBig most)) =
    (most ≡ limit) × IfSome told (λ files. IsSomeAnd (file_named files name) (λ bytes. limit < length bytes))
Fetched name limit told (Err faults.NoMemory) = ⊤

-- a write that takes no byte of a piece that isn't empty isn't answered as one that passed
abbrev pub NeverStuck : List ℕ → Result ℕ SinkFault → Type 0
NeverStuck piece (Ok count) = 0 < length piece → 0 < count
NeverStuck piece (Err fault) = ⊤

-- the answer isn't NoMemory
abbrev pub NeverWants : Result ℕ SinkFault → Type 0
NeverWants (Ok count) = ⊤
NeverWants (Err sinks.Failed) = ⊤
NeverWants (Err sinks.NoMemory) = ⊥
