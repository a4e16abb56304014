-- Need not be believed: helps proofs and other laws.
-- Terms beside those of `specs/WalkCommand.antt`.
use Rattle.std.specs.Prelude.{◌≡◌, List, Option, Some, Result, Ok, Err, None, ⊤}
use Rattle.net_model.specs.Network.{Network}
use Rattle.intent_reader.specs.declared.intent.Intent.{Intent}
use Rattle.path_compiler.specs.declared.compiled.Compiled.{Compiled}
use Rattle.path_compiler.specs.declared.compiled.CompileFault.{CompileFault}
use Rattle.compile_commands.specs.CompiledLists.{IsCompiledFor, IntentAnswers, IsLeastFor, NoneLessFor}
use Rattle.command_output.specs.Outputs.{refused}
use Rattle.command_output.specs.OutputPieces.{Output}
use Rattle.walk_commands.specs.declared.opening.Opening.{Opening}
use Rattle.walk_commands.specs.declared.opening.Opening.TheVariants as starts
use Rattle.command_output.specs.declared.halt.Failure.TheVariants as failures
use Rattle.command_output.specs.declared.halt.Halt.{Halt}
use Rattle.command_output.specs.declared.halt.Halt.TheVariants as halts
use Rattle.command_output.specs.OutputLinesTerms.{bytes_of_text}
use Rattle.walk_commands.specs.declared.walk_command.WalkWords as code
use Rattle.walk_commands.specs.WalkCommand.{WalkWords, headend_of, no_list, NoListWants}

-- the input is read only where the intent may be compiled

-- as the code has them
abbrev pub walk_words_seen : code.WalkWords → WalkWords
walk_words_seen words = record {
  file = words.file.now;
  intent = words.intent.now;
  choices = words.choices.items;
  schedule = words.schedule.items;
}

abbrev pub walk_asked : Option code.WalkWords → Option WalkWords
walk_asked None = None
walk_asked (Some words) = Some (walk_words_seen words)

-- the input is read only where the intent may be compiled

-- an output that is wanted of an answer without a list
abbrev pub WantsNoList : Network → Intent → Output → Type 0
WantsNoList net intent output =
    (fault : CompileFault) × IntentAnswers net intent (Err fault) × NoneLessFor net intent (Err fault) × NoListWants net fault output

-- how a walk starts, as its steps answer it: at the headend, with a list, or there is no list, or the refusal
abbrev pub StartsAs : Network → Intent → Result Opening Halt → Type 0
StartsAs net intent (Ok (starts.List headend)) =
    (c : Compiled) × IsCompiledFor net intent c × IsLeastFor net intent c × (headend ≡ headend_of net intent c)
StartsAs net intent (Ok (starts.NoList told)) = WantsNoList net intent (no_list (bytes_of_text told))
StartsAs net intent (Err (halts.Refused refusal)) = WantsNoList net intent (refused refusal)
StartsAs net intent (Err (halts.Failed failures.Fault)) = ⊥
StartsAs net intent (Err (halts.Failed failures.NoMemory)) = ⊤
