-- Need not be believed: helps proofs and other laws.
-- What the slow source and the slow sink stand on.
use Rattle.srx_edge.specs.declared.slow_source.SlowSource.{SlowSource}
use Rattle.srx_edge.specs.declared.slow_sink.SlowSink.{SlowSink}

abbrev pub source_of : {S : Type 0} → SlowSource S → S
source_of slow = slow.source

abbrev pub sink_of : {O : Type 0} → SlowSink O → O
sink_of slow = slow.sink
