-- Need not be believed: helps proofs and other laws.
-- Intents that differ in nothing but what they prefer, and answers without a list.
use Rattle.std.specs.Prelude.{◌≡◌, Result, Err}
use Rattle.intent_reader.specs.declared.intent.Intent.{Intent}
use Rattle.list_pack.specs.declared.types.Solution.{Solution}
use Rattle.path_compiler.specs.declared.compiled.Compiled.{Compiled}
use Rattle.path_compiler.specs.declared.compiled.CompileFault.{CompileFault}
use Rattle.path_compiler.specs.declared.compiled.CompileFault.TheVariants as faults

-- an intent, with what another prefers
abbrev pub preferring_as : Intent → Intent → Intent
preferring_as intent other = record intent { prefer = other.prefer }

-- two intents are the same but for what they prefer
abbrev pub DifferInPreference : Intent → Intent → Type 0
DifferInPreference intent other = other ≡ preferring_as intent other

-- the answer is that there is no list
abbrev pub TellsNoList : Result Compiled CompileFault → Type 0
TellsNoList answer = (s : Solution) × (answer ≡ Err (faults.NoList s))
