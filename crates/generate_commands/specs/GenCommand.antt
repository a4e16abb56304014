-- The command `gen`: the texts of a generated network and of the intent over it, and what the walks of generated packets
-- through it come to.
use Rattle.std.specs.Prelude.{◌≡◌, ℕ, true, false, if◌then◌else◌, List, [], ◌∷◌, ◌++◌, codes, Option, Some, None, Result, Ok, Err, ⊤}
use Rattle.std.specs.Str.{bytes_eq}
use Rattle.std.specs.Fmt.{decimal}
use Rattle.net_generator.specs.GeneratedWords.{is_size}
use Rattle.net_generator.specs.Networks.{net_text}
use Rattle.net_generator.specs.Intents.{intent_text}
use Rattle.net_model.specs.Network.{Network}
use Rattle.intent_reader.specs.declared.intent.Intent.{Intent}
use Rattle.path_compiler.specs.declared.compiled.Compiled.{Compiled}
use Rattle.path_compiler.specs.declared.compiled.CompileFault.{CompileFault}
use Rattle.generate_commands.specs.declared.gen_command.Made.{Made}
use Rattle.generate_commands.specs.declared.gen_command.Made.TheVariants as mades
use Rattle.generate_commands.specs.declared.gen_command.TheConstants.{PACKETS}
use Rattle.command_output.specs.declared.status.Status.TheVariants as statuses
use Rattle.generate_commands.specs.declared.summed.Summary.{Summary}
use Rattle.walk_commands.specs.WalkLists.{NetworkWants}
use Rattle.command_output.specs.Outputs.{reported}
use Rattle.walk_commands.specs.WalkCommand.{NoListWants}
use Rattle.command_inputs.specs.Judgements.{network_in}
use Rattle.command_output.specs.OutputPieces.{Output}
use Rattle.command_output.specs.CommandSpec.{CommandSpec}
use Rattle.command_output.specs.Verbs.{TwoWords, two_words}
use Rattle.generate_commands.specs.Summary.{summary_of}
use Rattle.trace_replay.specs.TraceGrammar.{number_in}

-- what its words ask for: a size, and what is generated of that size
pub record GenWords : Type 0 where
  pub size : ℕ
  pub made : Made

abbrev pub sized : Option ℕ → Option ℕ
sized None = None
sized (Some n) = if is_size n then Some n else None

abbrev pub size_in : List ℕ → Option ℕ
size_in word = sized (number_in word)

abbrev pub made_in : List ℕ → Option Made
made_in word =
    if bytes_eq word (codes "net") then Some mades.Net
    else if bytes_eq word (codes "intent") then Some mades.Intent
    else if bytes_eq word (codes "sum") then Some mades.Sum
    else None

abbrev pub gen_with : Option ℕ → Option Made → List (List ℕ) → Option GenWords
gen_with None made more = None
gen_with (Some size) None more = None
gen_with (Some size) (Some made) [] = Some (record { size = size; made = made })
gen_with (Some size) (Some made) (next ∷ more) = None

abbrev pub gen_by : Option TwoWords → Option GenWords
gen_by None = None
gen_by (Some words) = gen_with (size_in words.first) (made_in words.second) words.more

-- its words: the size, and what is generated
abbrev pub gen_words : List (List ℕ) → Option GenWords
gen_words words = gen_by (two_words (codes "gen") words)

-- the lines of a summary: a name and a number each, of the network, of the list, and of the walks

unfoldable pub network_lines : ℕ → ℕ → ℕ → ℕ → List ℕ
network_lines nodes links routes sids =
    codes "nodes " ++ (decimal nodes ++ 10 ∷ (codes "links " ++ (decimal links ++ 10 ∷ (codes "routes "
    ++ (decimal routes ++ 10 ∷ (codes "sids " ++ (decimal sids ++ 10 ∷ [])))))))

unfoldable pub list_lines : ℕ → ℕ → ℕ → List ℕ
list_lines containers header need =
    codes "containers " ++ (decimal containers ++ 10 ∷ (codes "header " ++ (decimal header ++ 10 ∷ (codes "need "
    ++ (decimal need ++ 10 ∷ [])))))

unfoldable pub walks_lines : ℕ → ℕ → ℕ → List ℕ
walks_lines packets frames left =
    codes "packets " ++ (decimal packets ++ 10 ∷ (codes "frames " ++ (decimal frames ++ 10 ∷ (codes "left "
    ++ (decimal left ++ 10 ∷ [])))))

abbrev pub summary_lines : Summary → List ℕ
summary_lines s =
    network_lines s.nodes s.links s.routes s.sids ++ (list_lines s.containers s.header s.need ++ walks_lines s.packets s.frames s.left)

-- the output of an answer of the compiler: the summary, or what `walk` has where there is no list
abbrev pub SumWants : Network → Intent → Result Compiled CompileFault → Output → Type 0
SumWants net intent (Ok c) output = output ≡ reported (summary_lines (summary_of net intent c PACKETS)) [] statuses.Done
SumWants net intent (Err fault) output = NoListWants net fault output

-- its own texts are judged as `compile` judges those of two files
abbrev pub GenWants : ℕ → Made → Output → Type 0
GenWants n mades.Net output = output ≡ reported (net_text n) [] statuses.Done
GenWants n mades.Intent output = output ≡ reported (intent_text n) [] statuses.Done
GenWants n mades.Sum output = NetworkWants SumWants (network_in (net_text n)) (Some (intent_text n)) output

abbrev pub gen_spec : ℕ → Made → CommandSpec
gen_spec n made = record {
  files = [];
  goes_on = λ texts. false;
  reads = false;
  leaves_input = λ held. ⊤;
  lines_last = true;
  statuses = statuses.Done ∷ statuses.Refused ∷ statuses.NoAnswer ∷ [];
  wants = λ held input output. GenWants n made output;
}
