-- Which texts are traces: the first line that is none, by its number from 1.
use Rattle.std.specs.Prelude.{ℕ, ◌+◌, Bool, true, false, ◌&&◌, ◌==◌, if◌then◌else◌, bytes_eq, List, [], ◌∷◌, length, Option, Some, None}
use Rattle.std.specs.List.{slice_split}
use Rattle.net_model.specs.Network.{Network}
use Rattle.trace_replay.specs.declared.line.Line.{Line}
use Rattle.trace_replay.specs.declared.line.Line.TheVariants as lines
use Rattle.trace_replay.specs.declared.trace_reading.Phase.{Phase}
use Rattle.trace_replay.specs.declared.trace_reading.Phase.TheVariants as phases
use Rattle.trace_replay.specs.TraceGrammar.{line_read}
use Rattle.trace_replay.specs.TraceLines.{head_text}

-- a text parted at its line feeds
abbrev pub pieces_of : List ℕ → List (List ℕ)
pieces_of text = slice_split (λ byte. byte == 10) text

-- all but the last, and the last

abbrev pub but_last : List (List ℕ) → List (List ℕ)
but_last [] = []
but_last (piece ∷ []) = []
but_last (piece ∷ next ∷ more) = piece ∷ but_last (next ∷ more)

abbrev pub last_of : List (List ℕ) → List ℕ
last_of [] = []
last_of (piece ∷ []) = piece
last_of (piece ∷ next ∷ more) = last_of (next ∷ more)

-- a text's lines, each of which a line feed ends, and what stands after the last line feed
abbrev pub lines_of : List ℕ → List (List ℕ)
lines_of text = but_last (pieces_of text)

abbrev pub rest_of : List ℕ → List ℕ
rest_of text = last_of (pieces_of text)

-- how far a trace has come after a line, if the line may stand there

abbrev pub behind_head : Option Line → Option Phase
behind_head None = None
behind_head (Some (lines.Packet family node packet)) = Some phases.Packets
behind_head (Some lines.Stage) = None
behind_head (Some lines.Stages) = None
behind_head (Some lines.End) = Some phases.Over

abbrev pub behind_packet : Option Line → Option Phase
behind_packet None = None
behind_packet (Some (lines.Packet family node packet)) = Some phases.Packets
behind_packet (Some lines.Stage) = Some phases.Packets
behind_packet (Some lines.Stages) = Some phases.Packets
behind_packet (Some lines.End) = Some phases.Over

-- the head is the first line, stages stand after a packet's first line, and nothing stands after the end
abbrev pub phase_behind : Network → Phase → List ℕ → Option Phase
phase_behind net phases.Begins line = if bytes_eq line head_text then Some phases.Empty else None
phase_behind net phases.Empty line = behind_head (line_read net line)
phase_behind net phases.Packets line = behind_packet (line_read net line)
phase_behind net phases.Over line = None

abbrev pub is_over : Phase → Bool
is_over phases.Begins = false
is_over phases.Empty = false
is_over phases.Packets = false
is_over phases.Over = true

abbrev pub bad_by : ℕ → (Phase → Option ℕ) → Option Phase → Option ℕ
bad_by n rest None = Some n
bad_by n rest (Some phase) = rest phase

-- the first of lines from a number on that is bad; where none is, what stands after them has to be nothing and after the end
abbrev pub bad_from : Network → Phase → ℕ → List ℕ → List (List ℕ) → Option ℕ
bad_from net phase n rest [] = if is_over phase && (length rest == 0) then None else Some n
bad_from net phase n rest (line ∷ more) = bad_by n (λ p. bad_from net p (n + 1) rest more) (phase_behind net phase line)

-- the first bad line of a text, if it has one
abbrev pub bad_line : Network → List ℕ → Option ℕ
bad_line net text = bad_from net phases.Begins 1 (rest_of text) (lines_of text)
