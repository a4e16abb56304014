-- Need not be believed: helps proofs and other laws.
-- Terms beside those of `specs/OutputPieces.antt`.
use Rattle.std.specs.Prelude.{◌≡◌, List, Option, None, Some}
use Rattle.srx_edge.specs.Sinks.{SinkSeen}
use Rattle.srx_edge.specs.CallSteps.{Ending, Whole, Fault, Memory, How}
use Rattle.srx_edge.specs.CallStepsTerms.{ending_by as ending_by_how}
use Rattle.command_output.specs.OutputPieces.{Piece, Which, Sinks, gone, Stop, At, Elsewhere, Went}

abbrev pub sinks_of : SinkSeen → SinkSeen → Sinks
sinks_of out err = record { out = out; err = err }

-- where a call stopped whose step on a sink ended early: at that sink, or for want of memory elsewhere
abbrev pub stop_at : Which → Option How → Stop
stop_at sink None = Elsewhere
stop_at sink (Some how) = At sink how

-- a front of a step's pieces went out, and nothing came after it
pub record StopsIn (ending : Ending) (pieces : List Piece) (old new : Sinks) : Type 0 where
  pub sink : Which
  pub how : Option How
  pub ends : ending_by_how how ≡ ending
  pub went : Went (stop_at sink how) pieces old new

-- what a step with pieces to write leaves of the sinks, by how it ended: all of them went out, or a front of them
abbrev pub WroteAll : Ending → List Piece → Sinks → Sinks → Type 0
WroteAll Whole pieces old new = new ≡ gone pieces old
WroteAll Fault pieces old new = StopsIn Fault pieces old new
WroteAll Memory pieces old new = StopsIn Memory pieces old new
