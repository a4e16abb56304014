-- What becomes of the packets of frames before their first stages: they stay, with a line, or enter the network.
use Rattle.std.specs.Prelude.{ℕ, List, [], ◌∷◌, ◌++◌, Option, Some, None}
use Rattle.std.specs.List.{flat_map}
use Rattle.pcap_io.specs.declared.frame.Body.{Body}
use Rattle.pcap_io.specs.declared.frame.Frame.{Frame}
use Rattle.pcap_io.specs.Capture.{written_head_bytes}
use Rattle.net_model.specs.Network.{Network}
use Rattle.walk_rules.specs.Walk.{Stage, walk_of, choice_at}
use Rattle.walk_rules.specs.declared.limits.TheConstants.{MAX_STAGES}
use Rattle.packet_walk.specs.Schedule.{Coming}
use Rattle.command_output.specs.OutputLines.{packet_line, unread_line}
use Rattle.command_output.specs.OutputPieces.{Piece, ForOut, ForErr}
use Rattle.run_commands.specs.declared.enters.Entrant.{Entrant}
use Rattle.run_commands.specs.declared.enters.EarlyEnd.{EarlyEnd}
use Rattle.run_commands.specs.declared.enters.EarlyEnd.TheVariants.{NotRead, Ends}
use Rattle.run_commands.specs.Scheduled.{coming, scheduled_pieces}

-- a packet stays, or enters
pub data Admission : Type 0 where
  EndsEarly : EarlyEnd → Admission
  Admitted : Entrant → Admission

abbrev pub early_end_of : Admission → Option EarlyEnd
early_end_of (EndsEarly stays) = Some stays
early_end_of (Admitted comes) = None

abbrev pub entrant_of : Admission → Option Entrant
entrant_of (EndsEarly stays) = None
entrant_of (Admitted comes) = Some comes

-- the line of a packet of a number that stays; none of one that enters

abbrev pub line_of_early_end : Network → ℕ → EarlyEnd → List ℕ
line_of_early_end net number (NotRead cause) = unread_line number cause
line_of_early_end net number (Ends end) = packet_line net number end

abbrev pub line_if_early_end : Network → ℕ → Option EarlyEnd → List ℕ
line_if_early_end net number None = []
line_if_early_end net number (Some stays) = line_of_early_end net number stays

abbrev pub line_of_frame : Network → (Body → Admission) → Frame → List ℕ
line_of_frame net entry frame = line_if_early_end net frame.number (early_end_of (entry frame.body))

-- the walk of a packet that enters, with a list of choices
abbrev pub walk_of_entrant : Network → List ℕ → Entrant → List Stage
walk_of_entrant net choices comes = walk_of MAX_STAGES net (Some comes.place) comes.content (choice_at choices) 0

-- a packet that enters, by its number and its walk

abbrev pub coming_if_admitted : Network → List ℕ → ℕ → Option Entrant → List Coming
coming_if_admitted net choices number None = []
coming_if_admitted net choices number (Some comes) = coming number (walk_of_entrant net choices comes)

abbrev pub coming_of_frame : Network → List ℕ → (Body → Admission) → Frame → List Coming
coming_of_frame net choices entry frame = coming_if_admitted net choices frame.number (entrant_of (entry frame.body))

-- those of frames
abbrev pub comings_of_frames : Network → List ℕ → (Body → Admission) → List Frame → List Coming
comings_of_frames net choices entry frames = flat_map (coming_of_frame net choices entry) frames

-- a packet that enters, as it is in flight with nothing spare in front

-- the head of the capture that is written, and the lines of the packets that stay
abbrev pub first_pieces : Network → (Body → Admission) → List Frame → List Piece
first_pieces net entry frames = ForOut written_head_bytes ∷ ForErr (flat_map (line_of_frame net entry) frames) ∷ []

-- those, and then the stages of the others in the order of a schedule
abbrev pub driven_pieces : Network → List ℕ → List ℕ → (Body → Admission) → List Frame → List Piece
driven_pieces net choices schedule entry frames =
    first_pieces net entry frames ++ scheduled_pieces net schedule (comings_of_frames net choices entry frames)
