-- Need not be believed: helps proofs and other laws.
-- A sink that tells nothing of what it takes.
use Rattle.std.specs.Prelude.{false, None}
use Rattle.srx_edge.specs.Sinks.{SinkSeen}

abbrev pub silent_seen : SinkSeen
silent_seen = record { held = None; faults = 0; wants = 0; stopped = false }
