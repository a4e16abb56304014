-- Need not be believed: helps proofs and other laws.
-- Terms beside those of `specs/TraceGrammar.antt`.
use Rattle.std.specs.Prelude.{ℕ, ◌-◌, ◌<◌, List, length, Option, Some, None}
use Rattle.std.specs.Global.{Vec}
use Rattle.net_model.specs.Network.{Network}
use Rattle.trace_replay.specs.declared.line.Line.{Line}
use Rattle.trace_replay.specs.declared.line.Line.TheVariants as lines

-- the bytes of a `Vec` that may be there
abbrev pub items_of : Option (Vec ℕ) → Option (List ℕ)
items_of None = None
items_of (Some bytes) = Some bytes.items

-- a packet enters at a node of the network
abbrev pub IsLine : Network → Option Line → Type 0
IsLine net None = Unit {0}
IsLine net (Some (lines.Packet family node packet)) = node < length net.nodes
IsLine net (Some lines.Stage) = Unit {0}
IsLine net (Some lines.Stages) = Unit {0}
IsLine net (Some lines.End) = Unit {0}
