-- Need not be believed: helps proofs and other laws.
-- Terms beside those of `specs/CompileCommand.antt`.
use Rattle.std.specs.Prelude.{[], ◌∷◌, Option, Result, Ok, Err, ⊤, Some, None}
use Rattle.std.specs.List.{All}
use Rattle.net_model.specs.Network.{Network}
use Rattle.intent_reader.specs.declared.intent.Intent.{Intent}
use Rattle.sid_list_theory.specs.SegmentListsTerms.{IsFlatList}
use Rattle.list_pack.specs.declared.types.Potential.{Potential}
use Rattle.list_pack.specs.declared.types.Solution.{Solution}
use Rattle.list_pack.specs.SidLists.{IsLegalList, list_in}
use Rattle.list_certificate.specs.SpellingTerms.{IsKnown}
use Rattle.path_compiler.specs.declared.compiled.Compiled.{Compiled}
use Rattle.path_compiler.specs.declared.compiled.CompileFault.{CompileFault}
use Rattle.compile_commands.specs.declared.compile_command.Answer.{Answer}
use Rattle.command_output.specs.declared.halt.Failure.TheVariants as failures
use Rattle.command_output.specs.declared.halt.Halt.{Halt}
use Rattle.command_output.specs.declared.halt.Halt.TheVariants as halts
use Rattle.command_output.specs.declared.status.Status.TheVariants as statuses
use Rattle.command_output.specs.Outputs.{refused, reported}
use Rattle.command_output.specs.OutputLines.{line}
use Rattle.command_output.specs.OutputLinesTerms.{bytes_of_text}
use Rattle.command_output.specs.OutputPieces.{Output}
use Rattle.command_output.specs.CommandSpec.{IsOneOf}
use Rattle.compile_commands.specs.declared.compile_command.CompileWords as code
use Rattle.compile_commands.specs.CompileCommand.{CompileWords, AnswerWants, CompiledWants}

-- as the code has them
abbrev pub compile_words_seen : code.CompileWords → CompileWords
compile_words_seen words = record { file = words.file.now; intent = words.intent.now }

abbrev pub compile_asked : Option code.CompileWords → Option CompileWords
compile_asked None = None
compile_asked (Some words) = Some (compile_words_seen words)

-- the list of what was compiled is legal, over SIDs as a flat network has them, so its values are addresses
abbrev pub HasValues : Network → Compiled → Type 0
HasValues net c = IsLegalList net c.list × IsFlatList (list_in net c.list)

-- the SIDs of the states that the certificate lists are SIDs of the network
abbrev pub KnowsStates : Network → Solution → Type 0
KnowsStates net solution = All (λ (q : Potential). IsKnown net q.state) solution.potentials

-- What `compile` has to write, as its steps answer it.

abbrev pub output_of_answer : Answer → Output
output_of_answer answer = reported (bytes_of_text answer.report) (bytes_of_text answer.told.line) answer.told.status

-- what is to be written is what is wanted
abbrev pub GivesWanted : (Output → Type 0) → Result Answer Halt → Type 0
GivesWanted Wants (Ok answer) =
    Wants (output_of_answer answer) × IsOneOf (statuses.Done ∷ statuses.NoAnswer ∷ []) answer.told.status
GivesWanted Wants (Err (halts.Refused refusal)) = Wants (refused refusal)
GivesWanted Wants (Err (halts.Failed failures.Fault)) = ⊥
GivesWanted Wants (Err (halts.Failed failures.NoMemory)) = ⊤

-- what the compiler's answer has
abbrev pub GivesAnswer : Network → Intent → Result Compiled CompileFault → Result Answer Halt → Type 0
GivesAnswer net intent compiled answer = GivesWanted (AnswerWants net intent compiled) answer

-- what an intent has in a network
abbrev pub GivesOf : Network → Intent → Result Answer Halt → Type 0
GivesOf net intent answer = GivesWanted (CompiledWants AnswerWants net intent) answer
