-- Need not be believed: helps proofs and other laws.
-- What `replay` says of the text that `trace` writes.
use Rattle.std.specs.Prelude.{◌≡◌, ◌↔◌, ℕ, ◌+◌, ◌^◌, ◌<◌, ◌≤◌, All, List, [], length, Some, Ok}
use Rattle.net_model.specs.Network.{Network}
use Rattle.trace_replay.specs.declared.verdict.Replayed.{Replayed}
use Rattle.trace_replay.specs.Written.{Traced}
use Rattle.trace_replay.specs.WrittenTerms.{counts_written, packets_lines}
use Rattle.srx_edge.specs.Edge.{file_named}
use Rattle.srx_edge.specs.Sinks.{sent}
use Rattle.net_model.specs.declared.limits.TheConstants.{MAX_TEXT_BYTES}
use Rattle.command_inputs.specs.declared.input_packets.Packets.{Packets}
use Rattle.command_output.specs.declared.refusal.Refusal.TheVariants as refusals
use Rattle.command_output.specs.declared.status.Status.TheVariants as statuses
use Rattle.command_output.specs.Outputs.{reported, refused}
use Rattle.trace_commands.specs.ReplayCommand.{replay_spec, right_line}
use Rattle.trace_commands.specs.TraceCommand.{trace_output, traced_of}
use Rattle.command_inputs.specs.Judgements.{network_in, node_in}
use Rattle.command_inputs.specs.InputPackets.{packets_in, reading_of}
use Rattle.command_output.specs.OutputPieces.{Piece, Output, Sinks, bytes_for_out, gone}
use Rattle.command_output.specs.CommandSpec.{Held}

-- the bytes of pieces for `out` are what `out` receives
abbrev pub OutReceives : Type 0
OutReceives = (pieces : List Piece) (old : Sinks) → (gone pieces old).out ≡ sent (bytes_for_out pieces) old.out

-- what `trace` writes for `out`, of a description, a node's name, choices and an input
abbrev pub trace_for_out : List ℕ → List ℕ → List ℕ → List ℕ → List ℕ
trace_for_out text name choices input = bytes_for_out (trace_output text name choices input).pieces

-- the network, the node and the packets that a description, a name and an input give
pub record Judged (text name input : List ℕ) : Type 0 where
  pub net : Network
  pub node : ℕ
  pub packets : Packets
  pub described : network_in text ≡ Ok net
  pub named : node_in net name ≡ Ok node
  pub read : packets_in input ≡ Ok packets

-- of these the packets whose walks are written under a list of choices: those that are read
abbrev pub traced_under : {text name input : List ℕ} → List ℕ → Judged text name input → List Traced
traced_under choices judged = traced_of judged.node choices (reading_of judged.packets).frames

-- `replay` has exactly this output where its first file holds a description and its second file a trace
abbrev pub ReplaysTo : List ℕ → List ℕ → Output → Type 0
ReplaysTo text trace output = (file name : List ℕ) (held : Held) (input : List ℕ) (given : Output)
    → file_named held file ≡ Some text → file_named held name ≡ Some trace
    → (replay_spec file name).wants held input given ↔ (given ≡ output)

-- the output for a trace that is right, with its counts
abbrev pub right_with : Replayed → Output
right_with counts = reported (right_line counts.packets counts.lines) [] statuses.Done

-- what `trace` writes and is Done with is right in the same network, with the counts of the packets and of their lines
abbrev pub WholeTracesAreRight : Type 0
WholeTracesAreRight = (text name choices input : List ℕ) → All (λ byte. byte < 2 ^ 8) input
    → (trace_output text name choices input).status ≡ statuses.Done
    → length (trace_for_out text name choices input) ≤ MAX_TEXT_BYTES
    → (judged : Judged text name input)
    × ReplaysTo text (trace_for_out text name choices input) (right_with (counts_written judged.net (traced_under choices judged)))

-- what it writes where something after the packets is refused is refused at the line after its last one, if it too is within the limit
-- of a file
abbrev pub UnendedTracesAreRefused : Type 0
UnendedTracesAreRefused = (text name choices input : List ℕ) → All (λ byte. byte < 2 ^ 8) input
    → (judged : Judged text name input)
    → (trace_output text name choices input).status ≡ statuses.Refused
    → length (trace_for_out text name choices input) ≤ MAX_TEXT_BYTES
    → ReplaysTo text (trace_for_out text name choices input)
    (refused (refusals.BadTrace (length (packets_lines judged.net (traced_under choices judged)) + 2)))
