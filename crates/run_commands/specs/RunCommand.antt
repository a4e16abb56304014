-- The command `run`: the packets of the input, from a node of the network that a file describes, in the order of a schedule.
use Rattle.std.specs.Prelude.{◌≡◌, ℕ, Bool, true, false, List, [], ◌∷◌, codes, Option, Some, None, Result, Ok, Err, IsSomeAnd, is_ok}
use Rattle.pcap_io.specs.declared.frame.Frame.{Frame}
use Rattle.net_model.specs.Network.{Network}
use Rattle.srx_edge.specs.Edge.{file_named}
use Rattle.command_inputs.specs.declared.input_packets.Packets.{Packets}
use Rattle.command_output.specs.declared.refusal.Refusal.{Refusal}
use Rattle.command_output.specs.declared.status.Status.TheVariants as statuses
use Rattle.command_inputs.specs.Judgements.{network_in, node_in}
use Rattle.command_output.specs.Outputs.{after, ended_by}
use Rattle.command_inputs.specs.InputPackets.{packets_in, reading_of, fault_of}
use Rattle.command_output.specs.OutputPieces.{Piece, Output}
use Rattle.run_commands.specs.AtNode.{admission_at_node}
use Rattle.run_commands.specs.Admission.{driven_pieces}
use Rattle.command_output.specs.CommandSpec.{CommandSpec}
use Rattle.command_output.specs.Verbs.{TwoWords, two_words}
use Rattle.command_inputs.specs.ChoiceWords.{Picks, picks_after}

-- what its words ask for
pub record RunWords : Type 0 where
  pub file : List ℕ
  pub node : List ℕ
  pub choices : List ℕ
  pub schedule : List ℕ

abbrev pub run_with : List ℕ → List ℕ → Option Picks → Option RunWords
run_with file node None = None
run_with file node (Some picks) =
    Some (record { file = file; node = node; choices = picks.choices; schedule = picks.schedule })

abbrev pub run_by : Option TwoWords → Option RunWords
run_by None = None
run_by (Some words) = run_with words.first words.second (picks_after words.more)

-- its words: the file and the node; the choices may follow, and after them the schedule
abbrev pub run_words : List (List ℕ) → Option RunWords
run_words words = run_by (two_words (codes "run") words)

-- the head of the capture that is written, the lines of the packets that aren't read, and the stages of the others in the order of
-- a schedule
abbrev pub packets_pieces : Network → ℕ → List ℕ → List ℕ → List Frame → List Piece
packets_pieces net node choices schedule frames = driven_pieces net choices schedule (admission_at_node node) frames

abbrev pub ran : Network → ℕ → List ℕ → List ℕ → Packets → Output
ran net node choices schedule packets =
    ended_by (packets_pieces net node choices schedule (reading_of packets).frames) (fault_of (reading_of packets))

-- the file is judged, then the node's name, then the input
abbrev pub run_output : List ℕ → List ℕ → List ℕ → List ℕ → List ℕ → Output
run_output text name choices schedule input =
    after (network_in text) (λ net. after (node_in net name) (λ node. after (packets_in input) (λ packets.
    ran net node choices schedule packets)))

-- whether the input is read: the file and the node's name are judged well

abbrev pub has_start : Result Network Refusal → List ℕ → Bool
has_start (Ok net) name = is_ok (node_in net name)
has_start (Err refusal) name = false

abbrev pub reads_input : Option (List ℕ) → List ℕ → Bool
reads_input None name = false
reads_input (Some text) name = has_start (network_in text) name

abbrev pub run_spec : List ℕ → List ℕ → List ℕ → List ℕ → CommandSpec
run_spec file name choices schedule = record {
  files = file ∷ [];
  goes_on = λ texts. false;
  reads = true;
  leaves_input = λ held. reads_input (file_named held file) name ≡ false;
  lines_last = false;
  statuses = statuses.Done ∷ statuses.Refused ∷ [];
  wants = λ held input output. IsSomeAnd (file_named held file) (λ text. output ≡ run_output text name choices schedule input);
}
