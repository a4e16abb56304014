-- Need not be believed: helps proofs and other laws.
-- Terms beside those of `specs/CallSteps.antt`.
use Rattle.std.specs.Prelude.{◌≡◌, ℕ, List, [], ◌∷◌, ◌++◌, Option, None, Some, ⊤}
use Rattle.srx_edge.specs.Sinks.{SinkSeen, sent}
use Rattle.srx_edge.specs.CallSteps.{Ending, Whole, Fault, Memory, How, ending_of, stopped_by}

-- a step that didn't end whole and didn't stop its sink ended for want of memory elsewhere

abbrev pub ending_by : Option How → Ending
ending_by None = Memory
ending_by (Some how) = ending_of how

abbrev pub left_by : Option How → SinkSeen → SinkSeen
left_by None sink = sink
left_by (Some how) sink = stopped_by how sink

-- what stopped a sink was the write of a byte
abbrev pub IsStopAt : Option How → List ℕ → Type 0
IsStopAt None rest = ⊤
IsStopAt (Some how) [] = ⊥
IsStopAt (Some how) (byte ∷ rest) = ⊤

-- a front of the bytes went out, and nothing came after it
pub record Cut (ending : Ending) (bytes : List ℕ) (old new : SinkSeen) : Type 0 where
  pub how : Option How
  pub ends : ending_by how ≡ ending
  pub first : List ℕ
  pub rest : List ℕ
  pub whole : first ++ rest ≡ bytes
  pub at : IsStopAt how rest
  pub seen : new ≡ left_by how (sent first old)

-- what the step leaves of its sink: all of the bytes went out, or a front of them
abbrev pub Wrote : Ending → List ℕ → SinkSeen → SinkSeen → Type 0
Wrote Whole bytes old new = new ≡ sent bytes old
Wrote Fault bytes old new = Cut Fault bytes old new
Wrote Memory bytes old new = Cut Memory bytes old new
