-- The command `replay`: the trace of a file, run again in the network that another describes.
use Rattle.std.specs.Prelude.{◌≡◌, ℕ, true, false, List, [], ◌∷◌, ◌++◌, codes, Option, Some, None, Result, Ok, Err, IsSomeAnd, ⊤}
use Rattle.std.specs.Fmt.{decimal}
use Rattle.net_model.specs.Network.{Network}
use Rattle.trace_replay.specs.declared.verdict.Replayed.{Replayed}
use Rattle.trace_replay.specs.Replays.{Wrong, first_wrong, counts_of}
use Rattle.srx_edge.specs.Edge.{file_named}
use Rattle.command_output.specs.declared.refusal.Refusal.{Refusal}
use Rattle.command_output.specs.declared.status.Status.TheVariants as statuses
use Rattle.command_output.specs.Outputs.{reported, refused, after}
use Rattle.command_inputs.specs.Judgements.{network_in, trace_in, asks_behind_network}
use Rattle.command_output.specs.OutputPieces.{Output}
use Rattle.command_output.specs.CommandSpec.{CommandSpec}
use Rattle.command_output.specs.Verbs.{TwoWords, two_words}

-- what its words ask for
pub record ReplayWords : Type 0 where
  pub file : List ℕ
  pub trace : List ℕ

abbrev pub replay_with : List ℕ → List ℕ → List (List ℕ) → Option ReplayWords
replay_with file trace [] = Some (record { file = file; trace = trace })
replay_with file trace (next ∷ more) = None

abbrev pub replay_by : Option TwoWords → Option ReplayWords
replay_by None = None
replay_by (Some words) = replay_with words.first words.second words.more

-- its words: the description and the trace
abbrev pub replay_words : List (List ℕ) → Option ReplayWords
replay_words words = replay_by (two_words (codes "replay") words)

-- the line of a trace that is right: its packets, and its lines but for the first and the last
unfoldable pub right_line : ℕ → ℕ → List ℕ
right_line packets lines = codes "ok " ++ (decimal packets ++ 32 ∷ (decimal lines ++ 10 ∷ []))

-- the line of one that is not: its first wrong line, from 1, and what should stand there
unfoldable pub wrong_line : ℕ → List ℕ → List ℕ
wrong_line number expected = codes "no " ++ (decimal number ++ 32 ∷ (expected ++ 10 ∷ []))

-- what is said of the lines of a trace

abbrev pub replayed_by : Replayed → Option Wrong → Output
replayed_by counts None = reported (right_line counts.packets counts.lines) [] statuses.Done
replayed_by counts (Some wrong) = reported (wrong_line wrong.line wrong.expected) [] statuses.SaysNo

abbrev pub replayed : Network → List (List ℕ) → Output
replayed net lines = replayed_by (counts_of lines) (first_wrong net lines)

-- the description is judged, and then the trace

abbrev pub replay_output : Network → List ℕ → Output
replay_output net text = after (trace_in net text) (replayed net)

abbrev pub ReplayWants : Result Network Refusal → Option (List ℕ) → Output → Type 0
ReplayWants (Err refusal) trace output = output ≡ refused refusal
ReplayWants (Ok net) trace output = IsSomeAnd trace (λ text. output ≡ replay_output net text)

abbrev pub replay_spec : List ℕ → List ℕ → CommandSpec
replay_spec file trace = record {
  files = file ∷ trace ∷ [];
  goes_on = asks_behind_network;
  reads = false;
  leaves_input = λ held. ⊤;
  lines_last = true;
  statuses = statuses.Done ∷ statuses.Refused ∷ statuses.SaysNo ∷ [];
  wants = λ held input output. IsSomeAnd (file_named held file) (λ text. ReplayWants (network_in text) (file_named held trace) output);
}
