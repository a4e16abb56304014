-- The input isn't read where there is no list.
use Rattle.std.proofs.Common.{◌≡◌, ℕ, List, Option, None, Some, Result, Ok, Err, refl, subst}
use Rattle.std.specs.Prelude.{IsSomeAnd}
use Rattle.net_model.specs.Network.{Network}
use Rattle.intent_reader.specs.declared.intent.Intent.{Intent}
use Rattle.path_compiler.specs.declared.compiled.Compiled.{Compiled}
use Rattle.path_compiler.specs.declared.compiled.CompileFault.{CompileFault}
use Rattle.path_compiler.specs.declared.compiled.CompileFault.TheVariants as faults
use Rattle.compile_commands.specs.CompiledLists.{IntentAnswers, IsCompiledFor}
use Rattle.compile_commands.proofs.PublicLaws.{one_answer_for}
use Rattle.command_output.specs.declared.refusal.Refusal.{Refusal}
use Rattle.command_output.specs.OutputPieces.{Output}
use Rattle.command_inputs.specs.Judgements.{network_in, intent_in}
use Rattle.walk_commands.specs.WalkCommand.{HasList, HasListIn, NoListWants}
use Rattle.walk_commands.specs.WalkCommandTerms.{WantsNoList}

-- a text that is there is judged so
abbrev GivesText : {A : Type 0} → (List ℕ → Result A Refusal) → Result A Refusal → Option (List ℕ) → Type 0
GivesText judge judged o = IsSomeAnd o (λ text. judge text ≡ judged)

-- texts of a description and of an intent that have a list
abbrev HasListOf : Option (List ℕ) → Option (List ℕ) → Type 0
HasListOf file intent = IsSomeAnd file (λ text. HasListIn (network_in text) intent)

-- the description is refused
pub no_list_of_file : (refusal : Refusal) (file intent : Option (List ℕ)) → GivesText network_in (Err refusal) file
    → ¬ HasListOf file intent
no_list_of_file refusal None intent is = λ has. absurd is
no_list_of_file refusal (Some text) intent is = λ has. subst (λ (j : Result Network Refusal). HasListIn j intent) is has

-- the intent has none in the network of the description
pub no_list_of_intent : (net : Network) (read : Result Intent Refusal) (file intent : Option (List ℕ)) → ¬ HasList net read
    → GivesText network_in (Ok net) file → GivesText (intent_in net) read intent → ¬ HasListOf file intent
no_list_of_intent net read None intent none is i = λ has. absurd is
no_list_of_intent net read (Some text) None none is i = λ has. absurd i
no_list_of_intent net read (Some text) (Some more) none is i =
    λ has. none (subst (HasList net) i (subst (λ (j : Result Network Refusal). HasListIn j (Some more)) is has))

-- where an answer without a list is wanted, no list is compiled
module _ (net : Network) (intent : Intent) where
  abbrev IsWant : Result Compiled CompileFault → Type 0
  IsWant answer = answer ≡ Err faults.NoMemory

  found_or_not : (c : Compiled) (fault : CompileFault) (answer : Result Compiled CompileFault) → answer ≡ Ok c → answer ≡ Err fault → ⊥
  found_or_not c fault answer found not = cc

  other_answer : (c : Compiled) (fault : CompileFault) → IsCompiledFor net intent c → IntentAnswers net intent (Err fault)
      → (IsWant (Err fault) → ⊥) → ⊥
  other_answer c fault is answers some =
      found_or_not c fault (Ok c) refl (one_answer_for net intent (Ok c) (Err fault) is answers (λ e. cc) some)

  by_fault : (c : Compiled) (fault : CompileFault) (output : Output) → IsCompiledFor net intent c → IntentAnswers net intent (Err fault)
      → NoListWants net fault output → ⊥
  by_fault c (faults.NotFlat why) output is answers wants = other_answer c (faults.NotFlat why) is answers (λ e. cc)
  by_fault c (faults.NoList s) output is answers wants = other_answer c (faults.NoList s) is answers (λ e. cc)
  by_fault c (faults.TooLong d) output is answers wants = other_answer c (faults.TooLong d) is answers (λ e. cc)
  by_fault c (faults.HopLimit d) output is answers wants = other_answer c (faults.HopLimit d) is answers (λ e. cc)
  by_fault c faults.NoMemory output is answers wants = absurd wants

  pub none_has_list : (output : Output) → WantsNoList net intent output → ¬ HasList net (Ok intent)
  none_has_list output w = λ has. by_fault has.0 w.0 output has.1 w.1 w.3
