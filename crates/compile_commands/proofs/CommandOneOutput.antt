-- What is wanted of an intent is one output, where each answer of the compiler wants one.
use Rattle.std.proofs.Common.{◌≡◌, ◌≢◌, ℕ, List, Option, Some, None, Result, Ok, Err, sym, ◌∙◌, subst}
use Rattle.std.specs.Prelude.{IsSomeAnd}
use Rattle.net_model.specs.Network.{Network}
use Rattle.intent_reader.specs.declared.intent.Intent.{Intent}
use Rattle.path_compiler.specs.declared.compiled.Compiled.{Compiled}
use Rattle.path_compiler.specs.declared.compiled.CompileFault.{CompileFault}
use Rattle.path_compiler.specs.declared.compiled.CompileFault.TheVariants as faults
use Rattle.intent_compiler.proofs.PublicLaws.{one_answer_for}
use Rattle.srx_edge.specs.Edge.{file_named}
use Rattle.command_output.specs.declared.refusal.Refusal.{Refusal}
use Rattle.command_output.specs.OutputPieces.{Output}
use Rattle.command_output.specs.CommandSpec.{Held}
use Rattle.command_inputs.specs.Judgements.{network_in, intent_in}
use Rattle.compile_commands.specs.CompileCommand.{Wanted, CompiledWants, IntentWants, NetworkWants, AnswerWants, compile_spec}

-- an answer of the compiler wants at most one output, and want of memory none
pub record WantsOne (Wants : Wanted) : Type 0 where
  pub one : (net : Network) (intent : Intent) (answer : Result Compiled CompileFault) (a b : Output)
      → Wants net intent answer a → Wants net intent answer b → a ≡ b
  pub some : (net : Network) (intent : Intent) (output : Output) → ¬ Wants net intent (Err faults.NoMemory) output

module _ (Wants : Wanted) (wants : WantsOne Wants) where
  some_memory : (net : Network) (intent : Intent) (answer : Result Compiled CompileFault) (output : Output)
      → Wants net intent answer output → answer ≢ Err faults.NoMemory
  some_memory net intent answer output is e =
      wants.some net intent output (subst (λ (x : Result Compiled CompileFault). Wants net intent x output) e is)

  pub compiled_one : (net : Network) (intent : Intent) (a b : Output) → CompiledWants Wants net intent a → CompiledWants Wants net intent b
      → a ≡ b
  compiled_one net intent a b one two =
      let same : one.0 ≡ two.0
      = one_answer_for net intent one.0 two.0 one.1 two.1
      (some_memory net intent one.0 a one.3) (some_memory net intent two.0 b two.3) in
      wants.one net intent two.0 a b (subst (λ (x : Result Compiled CompileFault). Wants net intent x a) same one.3) two.3

  intent_one : (net : Network) (intent : Result Intent Refusal) (a b : Output) → IntentWants Wants net intent a
      → IntentWants Wants net intent b → a ≡ b
  intent_one net (Err refusal) a b one two = one ∙ sym two
  intent_one net (Ok intent) a b one two = compiled_one net intent a b one two

  text_one : (net : Network) (text : Option (List ℕ)) (a b : Output)
      → IsSomeAnd text (λ text. IntentWants Wants net (intent_in net text) a)
      → IsSomeAnd text (λ text. IntentWants Wants net (intent_in net text) b) → a ≡ b
  text_one net None a b one two = absurd one
  text_one net (Some text) a b one two = intent_one net (intent_in net text) a b one two

  network_one : (net : Result Network Refusal) (text : Option (List ℕ)) (a b : Output) → NetworkWants Wants net text a
      → NetworkWants Wants net text b → a ≡ b
  network_one (Err refusal) text a b one two = one ∙ sym two
  network_one (Ok net) text a b one two = text_one net text a b one two

  pub files_one : (file text : Option (List ℕ)) (a b : Output) → IsSomeAnd file (λ file. NetworkWants Wants (network_in file) text a)
      → IsSomeAnd file (λ file. NetworkWants Wants (network_in file) text b) → a ≡ b
  files_one None text a b one two = absurd one
  files_one (Some file) text a b one two = network_one (network_in file) text a b one two

-- so it is of `compile`

answer_one : (net : Network) (intent : Intent) (answer : Result Compiled CompileFault) (a b : Output) → AnswerWants net intent answer a
    → AnswerWants net intent answer b → a ≡ b
answer_one net intent (Ok c) a b one two = one ∙ sym two
answer_one net intent (Err (faults.NotFlat why)) a b one two = one ∙ sym two
answer_one net intent (Err (faults.NoList solution)) a b one two = one ∙ sym two
answer_one net intent (Err (faults.TooLong found)) a b one two = one ∙ sym two
answer_one net intent (Err (faults.HopLimit found)) a b one two = one ∙ sym two
answer_one net intent (Err faults.NoMemory) a b one two = absurd one

pub compile_one : (file intent : List ℕ) (held : Held) (input other : List ℕ) (a b : Output)
    → (compile_spec file intent).wants held input a
    → (compile_spec file intent).wants held other b → a ≡ b
compile_one file intent held input other a b one two =
    files_one AnswerWants (record { one = answer_one; some = λ net intent output is. is }) (file_named held file) (file_named held intent)
    a b one two
