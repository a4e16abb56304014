-- What packets send in the order of a schedule.
use Rattle.std.specs.Prelude.{ℕ, List, [], ◌∷◌, Option, Some, None}
use Rattle.std.specs.List.{flat_map}
use Rattle.net_model.specs.Network.{Network}
use Rattle.walk_rules.specs.declared.place.Ended.{Ended}
use Rattle.walk_rules.specs.Walk.{Stage, end_of}
use Rattle.packet_walk.specs.Schedule.{Coming, Taken, scheduled, stages_of}
use Rattle.run_commands.specs.WrittenCapture.{frame_of_gave}
use Rattle.command_output.specs.OutputLines.{packet_line}
use Rattle.command_output.specs.OutputPieces.{Piece, ForOut, ForErr}

-- one packet by the number of its frame and its walk
abbrev pub coming : ℕ → List Stage → List Coming
coming number steps = record { number = number; steps = steps } ∷ []

-- the line of a packet of a number whose walk ends with a step; none where there are more after it
abbrev pub line_behind : Network → ℕ → Stage → List Stage → List ℕ
line_behind net number step [] = packet_line net number (end_of net (step ∷ []))
line_behind net number step (next ∷ more) = []

-- the frame that a stage sends, if it sends one, with the packet's number
abbrev pub frame_of_stage : Taken → List ℕ
frame_of_stage t = frame_of_gave t.number t.step.gave

-- the line after a stage: none but after the packet's last one
abbrev pub line_of_stage : Network → Taken → List ℕ
line_of_stage net t = line_behind net t.number t.step t.behind

-- a stage's frame, and after the packet's last stage its line
abbrev pub pieces_of_stage : Network → Taken → List Piece
pieces_of_stage net t = ForOut (frame_of_stage t) ∷ ForErr (line_of_stage net t) ∷ []

abbrev pub pieces_of_stages : Network → List Taken → List Piece
pieces_of_stages net stages = flat_map (pieces_of_stage net) stages

-- the pieces of all stages of packets, in the order of a schedule
abbrev pub scheduled_pieces : Network → List ℕ → List Coming → List Piece
scheduled_pieces net schedule comings = pieces_of_stages net (scheduled schedule comings)

-- the one line of the packet of a number whose walk has these steps: how it ends; none where there is no step
abbrev pub line_of_walk : Network → ℕ → List Stage → List ℕ
line_of_walk net number [] = []
line_of_walk net number (s ∷ behind) = packet_line net number (end_of net (s ∷ behind))

-- the line of a packet of a number, if it has ended
abbrev pub line_by : Network → ℕ → Option Ended → List ℕ
line_by net number None = []
line_by net number (Some end) = packet_line net number end

-- the frames that stages send of the packet of a number, in order
abbrev pub frames_sent : ℕ → List Taken → List ℕ
frames_sent number stages = flat_map frame_of_stage (stages_of number stages)
