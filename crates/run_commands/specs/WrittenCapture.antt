-- Which frames the capture that is written has: those of packets that are sent, and of ICMPv6 errors.
use Rattle.std.specs.Prelude.{ℕ, ◌+◌, List, [], Option, None, Some}
use Rattle.std.specs.List.{flat_map}
use Rattle.pcap_io.specs.Capture.{written_frame_bytes}
use Rattle.srv6_rules.specs.Packet.{Packet, Content, bytes_of, spelling}
use Rattle.walk_rules.specs.declared.place.Outcome.{Outcome}
use Rattle.walk_rules.specs.declared.place.Outcome.TheVariants as outcomes
use Rattle.walk_rules.specs.Treatment.{Gave}
use Rattle.walk_rules.specs.Walk.{Stage}

-- the frame of an ICMPv6 error, if one is sent: its microseconds are 0
abbrev pub frame_of_error : ℕ → Option Packet → List ℕ
frame_of_error number None = []
frame_of_error number (Some error) = written_frame_bytes number 0 (spelling error)

-- the frame of a stage: a Send writes the packet after it, with the link's number from 1 as microseconds, and a drop the
-- error that is sent about it
abbrev pub frame_by : ℕ → Outcome → Content → Option Packet → List ℕ
frame_by number (outcomes.Send link) after error = written_frame_bytes number (link + 1) (bytes_of after)
frame_by number (outcomes.Again sid how) after error = []
frame_by number (outcomes.Hand sid how family) after error = []
frame_by number outcomes.Local after error = []
frame_by number (outcomes.Drop reason told) after error = frame_of_error number error

abbrev pub frame_of_gave : ℕ → Gave → List ℕ
frame_of_gave number gave = frame_by number gave.outcome gave.after gave.error

-- the frames of a packet's walk
abbrev pub frames_of : ℕ → List Stage → List ℕ
frames_of number steps = flat_map (λ step. frame_of_gave number step.gave) steps
