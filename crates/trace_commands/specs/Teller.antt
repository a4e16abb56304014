-- Need not be believed: helps proofs and other laws.
-- What tells a frame by the walk of its packet.
use Rattle.std.specs.Prelude.{ℕ, ◌<◌, List, length}
use Rattle.pcap_io.specs.declared.frame.Frame.{Frame}
use Rattle.trace_replay.specs.Written.{packets_trace}
use Rattle.trace_commands.specs.declared.trace_command.WalkTeller.{WalkTeller}
use Rattle.trace_commands.specs.TraceCommand.{traced_of_frame}

-- its node is one of the network, and it has choices
abbrev pub MayTell : WalkTeller → Type 0
MayTell teller = (teller.node < length teller.net.now.nodes) × (0 < length teller.choices.now)

-- the lines of the packet of a frame, if it is read
abbrev pub frame_trace : WalkTeller → Frame → List ℕ
frame_trace teller frame = packets_trace teller.net.now (traced_of_frame teller.node teller.choices.now frame)
