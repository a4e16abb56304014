-- Outputs of a refusal, of a report, and of a judgement.
use Rattle.std.specs.Prelude.{ℕ, List, [], ◌∷◌, ◌++◌, Option, Some, None, Result, Ok, Err}
use Rattle.command_output.specs.declared.refusal.Refusal.{Refusal}
use Rattle.command_output.specs.declared.status.Status.{Status}
use Rattle.command_output.specs.declared.status.Status.TheVariants as statuses
use Rattle.command_output.specs.OutputLines.{refusal_line}
use Rattle.command_output.specs.OutputPieces.{Piece, ForOut, ForErr, Output}

-- the output of a refusal: its line
abbrev pub refused : Refusal → Output
refused refusal = record { pieces = ForErr (refusal_line refusal) ∷ []; status = statuses.Refused }

-- the output by a judgement: what follows it, or the refusal's line
abbrev pub after : {A : Type 0} → Result A Refusal → (A → Output) → Output
after (Ok a) follow = follow a
after (Err refusal) follow = refused refusal

-- the output of a command that writes pieces for packets: at the end what is after their frames is refused, if anything is
abbrev pub ended_by : List Piece → Option Refusal → Output
ended_by pieces None = record { pieces = pieces ++ ForErr [] ∷ []; status = statuses.Done }
ended_by pieces (Some refusal) = record { pieces = pieces ++ ForErr (refusal_line refusal) ∷ []; status = statuses.Refused }

-- a report, and then a line
abbrev pub reported : List ℕ → List ℕ → Status → Output
reported report told status = record { pieces = ForOut report ∷ ForErr told ∷ []; status = status }
