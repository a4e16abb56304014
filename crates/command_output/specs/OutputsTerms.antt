-- Need not be believed: helps proofs and other laws.
-- Terms beside those of `specs/Outputs.antt`.
use Rattle.std.specs.Prelude.{[]}
use Rattle.command_output.specs.declared.conclusion.Judgement.{Judgement}
use Rattle.command_output.specs.OutputLinesTerms.{bytes_of_text}
use Rattle.command_output.specs.OutputPieces.{Output}
use Rattle.command_output.specs.Outputs.{reported}

abbrev pub output_of_judgement : Judgement → Output
output_of_judgement judgement = reported (bytes_of_text judgement.line) [] judgement.status
