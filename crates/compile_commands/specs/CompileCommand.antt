-- The command `compile`: a list for the intent of a file in the network that another describes.
use Rattle.std.specs.Prelude.{◌≡◌, ℕ, true, false, List, [], ◌∷◌, ◌++◌, codes, Option, Result, Ok, Err, IsSomeAnd, ⊤, Some, None}
use Rattle.std.specs.List.{flat_map}
use Rattle.std.specs.Fmt.{decimal}
use Rattle.v6_addr.specs.Text.{address_text}
use Rattle.net_model.specs.Network.{Network}
use Rattle.net_syntax.specs.declared.intent_table.Prefer.{Prefer}
use Rattle.net_syntax.specs.declared.intent_table.Prefer.TheVariants as prefers
use Rattle.intent_reader.specs.Preferences.{sid_cost_of}
use Rattle.intent_reader.specs.declared.intent.Intent.{Intent}
use Rattle.list_pack.specs.declared.types.Solution.{Solution}
use Rattle.list_pack.specs.SidLists.{list_values}
use Rattle.list_certificate.specs.Spelling.{spelled}
use Rattle.path_compiler.specs.declared.compiled.Compiled.{Compiled}
use Rattle.path_compiler.specs.declared.compiled.CompileFault.{CompileFault}
use Rattle.path_compiler.specs.declared.compiled.CompileFault.TheVariants as faults
use Rattle.intent_compiler.specs.CompilerAnswers.{IntentAnswers, NoneLessFor}
use Rattle.srx_edge.specs.Edge.{file_named}
use Rattle.command_output.specs.declared.refusal.Refusal.{Refusal}
use Rattle.command_output.specs.declared.status.Status.TheVariants as statuses
use Rattle.command_inputs.specs.Judgements.{network_in, intent_in, asks_behind_network}
use Rattle.command_output.specs.Halts.{flat_refusal}
use Rattle.command_output.specs.Outputs.{refused, reported}
use Rattle.command_output.specs.OutputLines.{line}
use Rattle.command_output.specs.OutputPieces.{Output}
use Rattle.command_output.specs.CommandSpec.{CommandSpec}
use Rattle.command_output.specs.Verbs.{TwoWords, two_words}

-- what its words ask for
pub record CompileWords : Type 0 where
  pub file : List ℕ
  pub intent : List ℕ

abbrev pub compile_with : List ℕ → List ℕ → List (List ℕ) → Option CompileWords
compile_with file intent [] = Some (record { file = file; intent = intent })
compile_with file intent (next ∷ more) = None

abbrev pub compile_by : Option TwoWords → Option CompileWords
compile_by None = None
compile_by (Some words) = compile_with words.first words.second words.more

-- its words: the description and the intent
abbrev pub compile_words : List (List ℕ) → Option CompileWords
compile_words words = compile_by (two_words (codes "compile") words)

unfoldable pub container_line : ℕ → List ℕ
container_line value = line (codes "# container " ++ address_text value)

-- a line with a number
unfoldable pub number_line : List ℕ → ℕ → List ℕ
number_line word number = codes "# " ++ (word ++ 32 ∷ (decimal number ++ 10 ∷ []))

-- how many SIDs the list has, where the intent prefers few of them
abbrev pub sids_lines : Prefer → ℕ → List ℕ
sids_lines prefers.Need count = []
sids_lines prefers.Sids count = number_line (codes "sids") count

-- the report's numbers: containers, SIDs where the intent prefers few of them, header bytes, need
abbrev pub numbers_lines : Prefer → Compiled → List ℕ
numbers_lines prefer c =
    number_line (codes "containers") c.containers ++ sids_lines prefer c.sids ++ number_line (codes "header") c.header
    ++ number_line (codes "need") c.need

-- a container's line has its 16 bytes as an address
abbrev pub report_of : Network → Prefer → Compiled → List ℕ
report_of net prefer c = flat_map container_line (list_values net c.list) ++ numbers_lines prefer c

unfoldable pub no_report : List ℕ
no_report = line (codes "# none")

-- the report, and after it the certificate of what the search found, of the form that the intent's preference asks for
abbrev pub printed : Network → Prefer → List ℕ → Solution → List ℕ
printed net prefer report solution = report ++ spelled net (sid_cost_of prefer) solution

unfoldable pub none_line : List ℕ
none_line = line (codes "no answer NoList")

unfoldable pub too_long_line : ℕ → List ℕ
too_long_line count = line (codes "no answer TooLong " ++ decimal count)

unfoldable pub hop_limit_line : ℕ → List ℕ
hop_limit_line need = line (codes "no answer HopLimit " ++ decimal need)

-- the output of an answer of the compiler; want of memory has none
abbrev pub AnswerWants : Network → Intent → Result Compiled CompileFault → Output → Type 0
AnswerWants net intent (Ok c) output =
    output ≡ reported (printed net intent.prefer (report_of net intent.prefer c) c.solution) [] statuses.Done
AnswerWants net intent (Err (faults.NotFlat why)) output = output ≡ refused (flat_refusal net why)
AnswerWants net intent (Err (faults.NoList solution)) output =
    output ≡ reported (printed net intent.prefer no_report solution) none_line statuses.NoAnswer
AnswerWants net intent (Err (faults.TooLong found)) output =
    output ≡ reported (printed net intent.prefer (report_of net intent.prefer found) found.solution) (too_long_line found.containers)
    statuses.NoAnswer
AnswerWants net intent (Err (faults.HopLimit found)) output =
    output ≡ reported (printed net intent.prefer (report_of net intent.prefer found) found.solution) (hop_limit_line found.need)
    statuses.NoAnswer
AnswerWants net intent (Err faults.NoMemory) output = ⊥

-- the description is judged, then the intent, and then any answer of the compiler will do: a list is the least among all legal lists that
-- realize the intent; what is wanted of each answer is the command's

abbrev pub Wanted : Type 1
Wanted = Network → Intent → Result Compiled CompileFault → Output → Type 0

abbrev pub CompiledWants : Wanted → Network → Intent → Output → Type 0
CompiledWants Wants net intent output =
    (answer : Result Compiled CompileFault) × IntentAnswers net intent answer × NoneLessFor net intent answer
    × Wants net intent answer output

abbrev pub IntentWants : Wanted → Network → Result Intent Refusal → Output → Type 0
IntentWants Wants net (Err refusal) output = output ≡ refused refusal
IntentWants Wants net (Ok intent) output = CompiledWants Wants net intent output

abbrev pub NetworkWants : Wanted → Result Network Refusal → Option (List ℕ) → Output → Type 0
NetworkWants Wants (Err refusal) intent output = output ≡ refused refusal
NetworkWants Wants (Ok net) intent output = IsSomeAnd intent (λ text. IntentWants Wants net (intent_in net text) output)

abbrev pub compile_spec : List ℕ → List ℕ → CommandSpec
compile_spec file intent = record {
  files = file ∷ intent ∷ [];
  goes_on = asks_behind_network;
  reads = false;
  leaves_input = λ held. ⊤;
  lines_last = true;
  statuses = statuses.Done ∷ statuses.Refused ∷ statuses.NoAnswer ∷ [];
  wants = λ held input output. IsSomeAnd (file_named held file)
      (λ text. NetworkWants AnswerWants (network_in text) (file_named held intent) output);
}
