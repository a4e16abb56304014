-- Need not be believed: helps proofs and other laws.
-- Terms beside those of `specs/Summary.antt`.
use Rattle.std.specs.Prelude.{◌≡◌, ℕ, Result, Ok, Err}
use Rattle.net_model.specs.Network.{Network}
use Rattle.intent_reader.specs.declared.intent.Intent.{Intent}
use Rattle.path_compiler.specs.declared.compiled.Compiled.{Compiled}
use Rattle.path_compiler.specs.declared.compiled.CompileFault.{CompileFault}
use Rattle.walk_commands.specs.WalkLists.{IntentAnswers, IsCompiledFor, IsLeastFor, NoneLessFor}
use Rattle.generate_commands.specs.declared.summed.Summary.{Summary}
use Rattle.generate_commands.specs.Summary.{summary_of}

-- the summary of a list that the intent is compiled to, or the compiler's answer where there is none
abbrev pub SummaryAnswers : Network → Intent → ℕ → Result Summary CompileFault → Type 0
SummaryAnswers net intent packets (Ok s) =
    (c : Compiled) × IsCompiledFor net intent c × IsLeastFor net intent c × (s ≡ summary_of net intent c packets)
SummaryAnswers net intent packets (Err fault) = IntentAnswers net intent (Err fault) × NoneLessFor net intent (Err fault)
