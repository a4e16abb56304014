-- Need not be believed: helps proofs and other laws.
-- Terms beside those of `specs/Gathered.antt`.
use Rattle.std.specs.Prelude.{◌≡◌, ◌⊎◌, ℕ, IsTrue, List, [], ◌∷◌, ◌++◌, Option, ⊤}
use Rattle.srx_edge.specs.Edge.{next_count}
use Rattle.srx_edge.specs.Sinks.{SinkSeen, sent}
use Rattle.srx_edge.specs.CallSteps.{Ending, Whole, Fault, Memory, How}
use Rattle.srx_edge.specs.CallStepsTerms.{ending_by as ending_by_how}
use Rattle.command_output.specs.OutputPieces.{Piece, ForOut, ForErr, Which, Sinks, Never, bytes_in_order, bytes_for_out, bytes_for_err, gone}
use Rattle.command_output.specs.OutputPiecesTerms.{sinks_of, stop_at}
use Rattle.command_output.specs.Gathered.{IsShort, InGroups}

-- a front of a step's groups went out, and nothing came after it
pub record StopsInGroups (ending : Ending) (pieces : List Piece) (old new : Sinks) : Type 0 where
  pub sink : Which
  pub how : Option How
  pub ends : ending_by_how how ≡ ending
  pub went : InGroups (stop_at sink how) pieces old new

-- what a step that gathers what it writes leaves of the sinks, by how it ended: all of it went out, or a front of its groups
abbrev pub WroteInGroups : Ending → List Piece → Sinks → Sinks → Type 0
WroteInGroups Whole pieces old new = new ≡ gone pieces old
WroteInGroups Fault pieces old new = StopsInGroups Fault pieces old new
WroteInGroups Memory pieces old new = StopsInGroups Memory pieces old new

-- what waits for each sink
pub record Waiting : Type 0 where
  pub out : List ℕ
  pub err : List ℕ

abbrev pub none_waits : Waiting
none_waits = record { out = []; err = [] }

-- as it goes out
abbrev pub waiting_pieces : Waiting → List Piece
waiting_pieces waiting = ForOut waiting.out ∷ ForErr waiting.err ∷ []

-- the sinks, and what waits for them
pub record Pooled : Type 0 where
  pub sinks : Sinks
  pub waiting : Waiting

abbrev pub pooled : Waiting → SinkSeen → SinkSeen → Pooled
pooled waiting out err = record { sinks = sinks_of out err; waiting = waiting }

-- of pieces that were written since the sinks were as at the start, the first ones went out in groups, and the others wait
pub record Waits (pieces : List Piece) (start : Sinks) (now : Pooled) : Type 0 where
  pub first : List Piece
  pub last : List Piece
  pub same : bytes_in_order (first ++ last) ≡ bytes_in_order pieces
  pub went : InGroups Never first start now.sinks
  pub short : IsShort last
  pub for_out : now.waiting.out ≡ bytes_for_out last
  pub for_err : now.waiting.err ≡ bytes_for_err last

-- where pieces are that were written since the sinks were as at the start, by how the last step ended: they went out or wait, or a
-- front of their groups went out
abbrev pub Stands : Ending → List Piece → Sinks → Pooled → Type 0
Stands Whole pieces start now = Waits pieces start now
Stands Fault pieces start now = StopsInGroups Fault pieces start now.sinks
Stands Memory pieces start now = StopsInGroups Memory pieces start now.sinks

-- what a step that writes pieces by the pool leaves, whatever was written before it
pub record Goes (ending : Ending) (pieces : List Piece) (old new : Pooled) : Type 0 where
  pub after : (start : Sinks) (before : List Piece) → Waits before start old → Stands ending (before ++ pieces) start new

-- what stands on the sinks of bytes in order: on `err` those of a front that are for it; on `out` all those of that front that are
-- for it, and some of the next ones. So where a line stands on `err`, all that comes before it for `out` stands there.
pub record StandsInOrder (pieces : List Piece) (old new : Sinks) : Type 0 where
  pub first : List Piece
  pub rest : List Piece
  pub same : bytes_in_order (first ++ rest) ≡ bytes_in_order pieces
  pub ahead : List ℕ
  pub later : List ℕ
  pub of_rest : ahead ++ later ≡ bytes_for_out rest
  pub on_out : new.out.held ≡ (sent (bytes_for_out first ++ ahead) old.out).held
  pub on_err : new.err.held ≡ (sent (bytes_for_err first) old.err).held

-- a step that takes no memory: where memory was wanting, a sink wanted it, which is stopped by that

abbrev pub HasWant : SinkSeen → SinkSeen → Type 0
HasWant old new = (new.wants ≡ next_count old.wants) × IsTrue new.stopped

abbrev pub WantsInSink : Ending → SinkSeen → SinkSeen → Type 0
WantsInSink Whole old new = ⊤
WantsInSink Fault old new = ⊤
WantsInSink Memory old new = HasWant old new

abbrev pub WantsInSinks : Ending → Sinks → Sinks → Type 0
WantsInSinks Whole old new = ⊤
WantsInSinks Fault old new = ⊤
WantsInSinks Memory old new = HasWant old.out new.out ⊎ HasWant old.err new.err
