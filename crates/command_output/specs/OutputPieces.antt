-- Output as pieces, in the order in which they are written, and how far they have gone out.
use Rattle.std.specs.Prelude.{◌≡◌, ℕ, List, [], ◌∷◌, ◌++◌, map}
use Rattle.std.specs.List.{flat_map}
use Rattle.srx_edge.specs.Sinks.{SinkSeen, sent}
use Rattle.srx_edge.specs.CallSteps.{Ending, Whole, Fault, Memory, How, stopped_by, ending_of}
use Rattle.command_output.specs.declared.status.Status.{Status}

-- the bytes of a piece go to `out`, or to `err`
pub data Piece : Type 0 where
  ForOut : List ℕ → Piece
  ForErr : List ℕ → Piece

-- what is written, in order, and the status
pub record Output : Type 0 where
  pub pieces : List Piece
  pub status : Status

-- the two sinks
pub data Which : Type 0 where
  ToOut : Which
  ToErr : Which

-- what is seen of them
pub record Sinks : Type 0 where
  pub out : SinkSeen
  pub err : SinkSeen

-- the sinks once the pieces have gone out
abbrev pub gone : List Piece → Sinks → Sinks
gone [] sinks = sinks
gone (ForOut bytes ∷ more) sinks = gone more (record sinks { out = sent bytes sinks.out })
gone (ForErr bytes ∷ more) sinks = gone more (record sinks { err = sent bytes sinks.err })

-- the bytes of pieces in order, each with the sink that it is for
abbrev pub bytes_of_piece : Piece → List (Which × ℕ)
bytes_of_piece (ForOut bytes) = map (λ byte. (ToOut, byte)) bytes
bytes_of_piece (ForErr bytes) = map (λ byte. (ToErr, byte)) bytes

abbrev pub bytes_in_order : List Piece → List (Which × ℕ)
bytes_in_order pieces = flat_map bytes_of_piece pieces

-- the bytes of pieces that are for `out`, in order
abbrev pub bytes_for_out : List Piece → List ℕ
bytes_for_out [] = []
bytes_for_out (ForOut bytes ∷ more) = bytes ++ bytes_for_out more
bytes_for_out (ForErr bytes ∷ more) = bytes_for_out more

-- those that are for `err`
abbrev pub bytes_for_err : List Piece → List ℕ
bytes_for_err [] = []
bytes_for_err (ForOut bytes ∷ more) = bytes_for_err more
bytes_for_err (ForErr bytes ∷ more) = bytes ++ bytes_for_err more

-- where a call stopped before its end: a fault of the files or of the input, a fault of a sink or a want of memory in it,
-- or a want of memory elsewhere
pub data Stop : Type 0 where
  Never : Stop
  AtFiles : Stop
  AtInput : Stop
  At : Which → How → Stop
  Elsewhere : Stop

abbrev pub ending_by : Stop → Ending
ending_by Never = Whole
ending_by AtFiles = Fault
ending_by AtInput = Fault
ending_by (At sink how) = ending_of how
ending_by Elsewhere = Memory

-- the sinks once one of them was stopped
abbrev pub left_by : Which → How → Sinks → Sinks
left_by ToOut how sinks = record sinks { out = stopped_by how sinks.out }
left_by ToErr how sinks = record sinks { err = stopped_by how sinks.err }

-- the next byte is one for that sink
abbrev pub IsNextFor : Which → List (Which × ℕ) → Type 0
IsNextFor sink [] = ⊥
IsNextFor sink (next ∷ rest) = next.0 ≡ sink

-- a front of the pieces went out: some of them whole, and a front of the next
pub record Front (pieces : List Piece) (old new : Sinks) : Type 0 where
  pub first : List Piece
  pub rest : List (Which × ℕ)
  pub whole : bytes_in_order first ++ rest ≡ bytes_in_order pieces
  pub sinks : new ≡ gone first old

-- a front of the pieces went out, and the write of the next byte stopped its sink; nothing came after it
pub record Cut (sink : Which) (how : How) (pieces : List Piece) (old new : Sinks) : Type 0 where
  pub first : List Piece
  pub rest : List (Which × ℕ)
  pub whole : bytes_in_order first ++ rest ≡ bytes_in_order pieces
  pub next : IsNextFor sink rest
  pub sinks : new ≡ left_by sink how (gone first old)

-- how far the pieces went out, by where the call stopped; what comes before the first of them is files, then input
abbrev pub Went : Stop → List Piece → Sinks → Sinks → Type 0
Went Never pieces old new = new ≡ gone pieces old
Went AtFiles pieces old new = new ≡ old
Went AtInput pieces old new = new ≡ old
Went (At sink how) pieces old new = Cut sink how pieces old new
Went Elsewhere pieces old new = Front pieces old new
