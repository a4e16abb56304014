-- The command `trace`: the walks of the packets of the input, from a node of the network that a file describes, as text.
use Rattle.std.specs.Prelude.{◌≡◌, ℕ, false, List, [], ◌∷◌, codes, Option, Some, None, IsSomeAnd, true}
use Rattle.std.specs.List.{flat_map}
use Rattle.pcap_io.specs.declared.frame.Body.{Body}
use Rattle.pcap_io.specs.declared.frame.Body.TheVariants as bodies
use Rattle.pcap_io.specs.declared.frame.Frame.{Frame}
use Rattle.srv6_rules.specs.declared.family.Family.{Family}
use Rattle.srv6_rules.specs.declared.family.Family.TheVariants.{V6, V4}
use Rattle.srv6_rules.specs.Packet.{Content, entered}
use Rattle.net_model.specs.Network.{Network}
use Rattle.walk_rules.specs.Walk.{choice_at}
use Rattle.trace_replay.specs.Written.{Traced, trace_text, unended_text}
use Rattle.srx_edge.specs.Edge.{file_named}
use Rattle.command_inputs.specs.declared.input_packets.Packets.{Packets}
use Rattle.command_output.specs.declared.refusal.Refusal.{Refusal}
use Rattle.command_output.specs.declared.status.Status.TheVariants as statuses
use Rattle.run_commands.specs.RunCommand.{reads_input}
use Rattle.command_inputs.specs.Judgements.{network_in, node_in}
use Rattle.command_output.specs.Outputs.{after, ended_by}
use Rattle.command_inputs.specs.InputPackets.{InputFrames, packets_in, reading_of, fault_of}
use Rattle.command_output.specs.OutputPieces.{ForOut, Output}
use Rattle.command_output.specs.CommandSpec.{CommandSpec}
use Rattle.command_output.specs.Verbs.{TwoWords, two_words}
use Rattle.command_inputs.specs.ChoiceWords.{choices_after}

-- what its words ask for
pub record TraceWords : Type 0 where
  pub file : List ℕ
  pub node : List ℕ
  pub choices : List ℕ

abbrev pub trace_with : List ℕ → List ℕ → Option (List ℕ) → Option TraceWords
trace_with file node None = None
trace_with file node (Some choices) = Some (record { file = file; node = node; choices = choices })

abbrev pub trace_by : Option TwoWords → Option TraceWords
trace_by None = None
trace_by (Some words) = trace_with words.first words.second (choices_after words.more)

-- its words: the file and the node; the choices may follow
abbrev pub trace_words : List (List ℕ) → Option TraceWords
trace_words words = trace_by (two_words (codes "trace") words)

-- what enters at a node as a packet of a number and a family, and is walked under a list of choices
abbrev pub traced_as : ℕ → List ℕ → ℕ → Family → Content → Traced
traced_as node choices number family content =
    record { number = number; family = family; node = node; content = content; pick = choice_at choices }

-- the packet of a frame, if it is read

abbrev pub traced_by : ℕ → List ℕ → ℕ → Body → List Traced
traced_by node choices number (bodies.V6 packet) = traced_as node choices number V6 (entered V6 packet) ∷ []
traced_by node choices number (bodies.V4 packet) = traced_as node choices number V4 (entered V4 packet) ∷ []
traced_by node choices number bodies.ShortFrame = []
traced_by node choices number bodies.NotIp = []

abbrev pub traced_of_frame : ℕ → List ℕ → Frame → List Traced
traced_of_frame node choices frame = traced_by node choices frame.number frame.body

-- the packets of frames, one after the other
abbrev pub traced_of : ℕ → List ℕ → List Frame → List Traced
traced_of node choices frames = flat_map (traced_of_frame node choices) frames

-- the text of packets: a trace, which has no end where something that is refused is after their frames

abbrev pub text_by : Network → List Traced → Option Refusal → List ℕ
text_by net packets None = trace_text net packets
text_by net packets (Some refusal) = unended_text net packets

abbrev pub text_of : Network → ℕ → List ℕ → InputFrames → List ℕ
text_of net node choices read = text_by net (traced_of node choices read.frames) (fault_of read)

abbrev pub traced : Network → ℕ → List ℕ → Packets → Output
traced net node choices packets =
    ended_by (ForOut (text_of net node choices (reading_of packets)) ∷ []) (fault_of (reading_of packets))

-- the file is judged, then the node's name, then the input
abbrev pub trace_output : List ℕ → List ℕ → List ℕ → List ℕ → Output
trace_output text name choices input =
    after (network_in text) (λ net. after (node_in net name) (λ node. after (packets_in input) (traced net node choices)))

abbrev pub trace_spec : List ℕ → List ℕ → List ℕ → CommandSpec
trace_spec file name choices = record {
  files = file ∷ [];
  goes_on = λ texts. false;
  reads = true;
  leaves_input = λ held. reads_input (file_named held file) name ≡ false;
  lines_last = true;
  statuses = statuses.Done ∷ statuses.Refused ∷ [];
  wants = λ held input output. IsSomeAnd (file_named held file) (λ text. output ≡ trace_output text name choices input);
}
