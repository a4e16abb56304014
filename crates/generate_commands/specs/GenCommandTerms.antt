-- Need not be believed: helps proofs and other laws.
-- Terms beside those of `specs/GenCommand.antt`.
use Rattle.std.specs.Prelude.{[], Option, Some, None, Result, Ok, Err, ⊤}
use Rattle.generate_commands.specs.declared.gen_command.Generated.{Generated}
use Rattle.generate_commands.specs.declared.gen_command.Generated.TheVariants as generates
use Rattle.command_output.specs.declared.halt.Failure.TheVariants as failures
use Rattle.command_output.specs.declared.halt.Halt.{Halt}
use Rattle.command_output.specs.declared.halt.Halt.TheVariants as halts
use Rattle.command_output.specs.declared.status.Status.TheVariants as statuses
use Rattle.command_output.specs.Outputs.{refused, reported}
use Rattle.walk_commands.specs.WalkCommand.{no_list}
use Rattle.command_output.specs.OutputLinesTerms.{bytes_of_text}
use Rattle.command_output.specs.OutputPieces.{Output}
use Rattle.generate_commands.specs.declared.gen_command.GenWords as code
use Rattle.generate_commands.specs.GenCommand.{GenWords}

-- as the code has them
abbrev pub gen_words_seen : code.GenWords → GenWords
gen_words_seen words = record { size = words.size; made = words.made }

abbrev pub gen_asked : Option code.GenWords → Option GenWords
gen_asked None = None
gen_asked (Some words) = Some (gen_words_seen words)

-- What `gen` has to write, as its steps answer it.

abbrev pub output_of_generated : Generated → Output
output_of_generated (generates.Report text) = reported (bytes_of_text text) [] statuses.Done
output_of_generated (generates.NoList line) = no_list (bytes_of_text line)

-- what is to be written is what is wanted
abbrev pub Generates : (Output → Type 0) → Result Generated Halt → Type 0
Generates Wants (Ok generated) = Wants (output_of_generated generated)
Generates Wants (Err (halts.Refused refusal)) = Wants (refused refusal)
Generates Wants (Err (halts.Failed failures.Fault)) = ⊥
Generates Wants (Err (halts.Failed failures.NoMemory)) = ⊤
