-- Need not be believed: helps proofs and other laws.
-- Terms beside those of `specs/Sinks.antt`.
use Rattle.std.specs.Prelude.{◌≡◌, ℕ, ◌<◌, List, length, take, Result, Ok, Err}
use Rattle.srx_edge.specs.declared.output.PourFault.{PourFault}
use Rattle.srx_edge.specs.declared.output.PourFault.TheVariants as pours
use Rattle.srx_edge.specs.Sinks.{SinkSeen, sent, failed, wanting}

-- `pour` sends all the bytes, or exactly the first `written` of them, which aren't all, and then the sink was stopped by
-- one fault or one want: no call that did anything came after it
abbrev pub Pours : List ℕ → Result (Unit {0}) PourFault → SinkSeen → SinkSeen → Type 0
Pours bytes (Ok unit) old new = new ≡ sent bytes old
Pours bytes (Err (pours.Failed written)) old new = (written < length bytes) × (new ≡ failed (sent (take written bytes) old))
Pours bytes (Err (pours.NoMemory written)) old new = (written < length bytes) × (new ≡ wanting (sent (take written bytes) old))
