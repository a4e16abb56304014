-- The command `show`: the headers of the packets of the input, as lines.
use Rattle.std.specs.Prelude.{◌≡◌, ℕ, Bool, true, false, List, [], ◌∷◌, ◌++◌, codes}
use Rattle.std.specs.List.{flat_map}
use Rattle.std.specs.Str.{bytes_eq}
use Rattle.std.specs.Fmt.{decimal}
use Rattle.pcap_io.specs.declared.frame.Body.{Body}
use Rattle.pcap_io.specs.declared.frame.Body.TheVariants as bodies
use Rattle.pcap_io.specs.declared.frame.Frame.{Frame}
use Rattle.srv6_rules.specs.declared.family.Family.TheVariants.{V6, V4}
use Rattle.srv6_rules.specs.Packet.{read_as}
use Rattle.header_lines.specs.HeaderLines.{packet_lines}
use Rattle.command_inputs.specs.declared.input_packets.Packets.{Packets}
use Rattle.command_output.specs.declared.unread.Unread.{Unread}
use Rattle.command_output.specs.declared.unread.Unread.TheVariants as unreads
use Rattle.command_output.specs.declared.status.Status.TheVariants as statuses
use Rattle.command_output.specs.Outputs.{after, ended_by}
use Rattle.command_output.specs.OutputLines.{unread_name}
use Rattle.command_inputs.specs.InputPackets.{packets_in, reading_of, fault_of}
use Rattle.command_output.specs.OutputPieces.{ForOut, Output}
use Rattle.command_output.specs.CommandSpec.{CommandSpec}

-- its one word
abbrev pub is_show : List (List ℕ) → Bool
is_show [] = false
is_show (verb ∷ []) = bytes_eq verb (codes "show")
is_show (verb ∷ next ∷ more) = false

-- a packet that isn't read, with the cause
unfoldable pub not_read_lines : ℕ → Unread → List ℕ
not_read_lines number cause =
    codes "packet " ++ (decimal number ++ 10 ∷ (codes "not read " ++ (unread_name cause ++ 10 ∷ [])))

-- the lines of a frame of a number, by the family of its packet
abbrev pub lines_by : ℕ → Body → List ℕ
lines_by number (bodies.V6 packet) = packet_lines number (read_as V6 packet)
lines_by number (bodies.V4 packet) = packet_lines number (read_as V4 packet)
lines_by number bodies.ShortFrame = not_read_lines number unreads.ShortFrame
lines_by number bodies.NotIp = not_read_lines number unreads.NotIp

abbrev pub frame_lines : Frame → List ℕ
frame_lines frame = lines_by frame.number frame.body

abbrev pub frames_lines : List Frame → List ℕ
frames_lines frames = flat_map frame_lines frames

-- the frames one after the other, and at the end the refusal of what is after them
abbrev pub shown : Packets → Output
shown packets = ended_by (ForOut (frames_lines (reading_of packets).frames) ∷ []) (fault_of (reading_of packets))

-- no file is read, so only the input is judged
abbrev pub show_output : List ℕ → Output
show_output input = after (packets_in input) shown

abbrev pub show_spec : CommandSpec
show_spec = record {
  files = [];
  goes_on = λ texts. false;
  reads = true;
  leaves_input = λ held. ⊥;
  lines_last = true;
  statuses = statuses.Done ∷ statuses.Refused ∷ [];
  wants = λ held input output. output ≡ show_output input;
}
