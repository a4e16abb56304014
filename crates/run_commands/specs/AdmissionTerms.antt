-- Need not be believed: helps proofs and other laws.
-- Terms beside those of `specs/Admission.antt`.
use Rattle.std.specs.Prelude.{ℕ, List, [], ◌∷◌, Option, Some, None, ⊤}
use Rattle.std.specs.List.{flat_map}
use Rattle.pcap_io.specs.declared.frame.Body.{Body}
use Rattle.pcap_io.specs.declared.frame.Frame.{Frame}
use Rattle.net_model.specs.Network.{Network}
use Rattle.walk_rules.specs.Relation.{IsPlace}
use Rattle.walk_rules.specs.Walk.{Stage, end_of}
use Rattle.node_stage.specs.Fronted.{fronted}
use Rattle.packet_walk.specs.Flight.{InFlight, entering}
use Rattle.packet_walk.specs.Schedule.{Coming}
use Rattle.command_output.specs.OutputLines.{packet_line}
use Rattle.command_output.specs.OutputPieces.{Piece, ForOut, ForErr}
use Rattle.command_output.specs.Sent.{IsEnd}
use Rattle.run_commands.specs.declared.enters.Entrant.{Entrant}
use Rattle.run_commands.specs.declared.enters.EarlyEnd.{EarlyEnd}
use Rattle.run_commands.specs.declared.enters.EarlyEnd.TheVariants.{NotRead, Ends}
use Rattle.run_commands.specs.WrittenCapture.{frames_of}
use Rattle.run_commands.specs.Admission.{Admission, EndsEarly, Admitted, line_of_frame}

-- a packet that stays ends at what is in the network, and one that enters stands at a place of it

abbrev pub EarlyEndIn : Network → EarlyEnd → Type 0
EarlyEndIn net (NotRead cause) = ⊤
EarlyEndIn net (Ends end) = IsEnd net end

abbrev pub EntersIn : Network → Admission → Type 0
EntersIn net (EndsEarly stays) = EarlyEndIn net stays
EntersIn net (Admitted comes) = IsPlace net comes.place

-- whatever a frame holds
abbrev pub AllEnterIn : Network → (Body → Admission) → Type 0
AllEnterIn net entry = (body : Body) → EntersIn net (entry body)

-- a packet that enters, as it is in flight with nothing spare in front

abbrev pub in_flight_if_admitted : List ℕ → Option Entrant → Option InFlight
in_flight_if_admitted choices None = None
in_flight_if_admitted choices (Some comes) = Some (entering (fronted comes.content 0) comes.place choices)

-- a packet of a number that is walked to its end: the frames of its walk, and then its line
abbrev pub packet_pieces : Network → ℕ → List Stage → List Piece
packet_pieces net number steps = ForOut (frames_of number steps) ∷ ForErr (packet_line net number (end_of net steps)) ∷ []

-- packets that are walked to their ends, one after the other
abbrev pub pieces_one_by_one : Network → List Coming → List Piece
pieces_one_by_one net comings = flat_map (λ (c : Coming). packet_pieces net c.number c.steps) comings

-- those that come with a frame
abbrev pub pieces_of_frame : Network → (Frame → List Coming) → Frame → List Piece
pieces_of_frame net comings frame = pieces_one_by_one net (comings frame)

-- the line of a frame's packet that stays, for `err`
abbrev pub line_pieces : Network → (Body → Admission) → Frame → List Piece
line_pieces net entry frame = ForErr (line_of_frame net entry frame) ∷ []
