-- `update` has one output.
use Rattle.std.proofs.Common.{◌≡◌, ℕ, List, Option, None, Some, Result, Ok, Err, sym, ◌∙◌}
use Rattle.std.specs.Prelude.{IsSomeAnd}
use Rattle.net_model.specs.Network.{Network}
use Rattle.net_flatness.specs.declared.not_flat.NotFlat.{NotFlat}
use Rattle.net_flatness.specs.Flat.{flatness_of}
use Rattle.intent_reader.specs.declared.intent.Intent.{Intent}
use Rattle.path_compiler.specs.declared.compiled.Compiled.{Compiled}
use Rattle.path_compiler.specs.declared.compiled.CompileFault.{CompileFault}
use Rattle.update_spec.specs.Planning.{planning}
use Rattle.update_spec.specs.declared.plan_fault.PlanFault.{PlanFault}
use Rattle.update_spec.specs.declared.plan_fault.PlanFault.TheVariants as plans
use Rattle.srx_edge.specs.Edge.{file_named}
use Rattle.command_output.specs.declared.refusal.Refusal.{Refusal}
use Rattle.command_output.specs.OutputPieces.{Output}
use Rattle.command_output.specs.CommandSpec.{Held}
use Rattle.command_inputs.specs.declared.file_judge.BothIntents.{BothIntents}
use Rattle.command_inputs.specs.Judgements.{network_in, intents_in}
use Rattle.walk_commands.specs.WalkLists.{CompiledWants}
use Rattle.walk_commands.proofs.PublicLaws.{compiled_one, no_list_one}
use Rattle.update_commands.specs.UpdateCommand.{BothWant, IntentWants, ListsWant, NewWants, OldWants, PacketsWant, WithFlat, WithJudged, WithList, WithPlan, update_spec}

-- what follows a judgement wants at most one output
abbrev IsOne : (Output → Type 0) → Type 0
IsOne Follow = (a b : Output) → Follow a → Follow b → a ≡ b

-- ---- so it is of an answer of the compiler

module _ (Follow : Compiled → Output → Type 0) (each : (c : Compiled) → IsOne (Follow c)) where
  answer_one : (net : Network) (intent : Intent) (answer : Result Compiled CompileFault) (a b : Output)
      → WithList Follow net intent answer a → WithList Follow net intent answer b → a ≡ b
  answer_one net intent (Ok c) a b one two = each c a b one two
  answer_one net intent (Err fault) a b one two = no_list_one net fault a b one two

  list_one : (net : Network) (intent : Intent) → IsOne (CompiledWants (WithList Follow) net intent)
  list_one = compiled_one (WithList Follow) (record { one = answer_one; some = λ net intent output is. is })

-- ---- of a plan, of flat networks, of what is judged, and of a file

plan_one : (planned : Result (Unit {0}) PlanFault) (Follow : Output → Type 0) → IsOne Follow → IsOne (WithPlan planned Follow)
plan_one (Ok u) Follow is a b one two = is a b one two
plan_one (Err (plans.Differs table item)) Follow is a b one two = one ∙ sym two
plan_one (Err (plans.Conflict before after)) Follow is a b one two = one ∙ sym two
plan_one (Err (plans.Limit table)) Follow is a b one two = one ∙ sym two
plan_one (Err plans.NoMemory) Follow is a b one two = absurd one

flat_one : (net : Network) (flat : Result (Unit {0}) NotFlat) (Follow : Output → Type 0) → IsOne Follow → IsOne (WithFlat net flat Follow)
flat_one net (Ok u) Follow is a b one two = is a b one two
flat_one net (Err why) Follow is a b one two = one ∙ sym two

judged_one : {A : Type 0} → (judged : Result A Refusal) (Follow : A → Output → Type 0) → ((x : A) → IsOne (Follow x))
    → IsOne (WithJudged judged Follow)
judged_one (Ok x) Follow each a b one two = each x a b one two
judged_one (Err refusal) Follow each a b one two = one ∙ sym two

file_one : (told : Option (List ℕ)) (Follow : List ℕ → Output → Type 0) → ((text : List ℕ) → IsOne (Follow text))
    → IsOne (λ output. IsSomeAnd told (λ text. Follow text output))
file_one None Follow each a b one two = absurd one
file_one (Some text) Follow each a b one two = each text a b one two

-- ---- and so of the whole

module _ (events input : List ℕ) where
  lists_one : (old new : Network) (both : BothIntents) → IsOne (ListsWant old new both events input)
  lists_one old new both =
      list_one (λ before. CompiledWants (WithList (PacketsWant old new both events input before)) new both.after)
      (λ before. list_one (PacketsWant old new both events input before) (λ after a b one two. one.0 ∙ sym two.0) new both.after)
      old both.before

  both_one : (old new : Network) (both : BothIntents) → IsOne (BothWant old new both events input)
  both_one old new both =
      let Lists : Output → Type 0 = ListsWant old new both events input in
      let Plan : Output → Type 0 = WithPlan (planning old new) Lists in
      let New : Output → Type 0 = WithFlat new (flatness_of new) Plan in
      flat_one old (flatness_of old) New
      (flat_one new (flatness_of new) Plan (plan_one (planning old new) Lists (lists_one old new both)))

  intent_one : (old new : Network) (told : Option (List ℕ)) → IsOne (IntentWants old new events input told)
  intent_one old new told =
      file_one told (λ text. WithJudged (intents_in old new text) (λ both. BothWant old new both events input))
      (λ text. judged_one (intents_in old new text) (λ both. BothWant old new both events input) (both_one old new))

  new_one : (old : Network) (told intent : Option (List ℕ)) → IsOne (NewWants old events input told intent)
  new_one old told intent =
      file_one told (λ text. WithJudged (network_in text) (λ new. IntentWants old new events input intent))
      (λ text. judged_one (network_in text) (λ new. IntentWants old new events input intent) (λ new. intent_one old new intent))

  old_one : (told new intent : Option (List ℕ)) → IsOne (OldWants events input told new intent)
  old_one told new intent =
      file_one told (λ text. WithJudged (network_in text) (λ old. NewWants old events input new intent))
      (λ text. judged_one (network_in text) (λ old. NewWants old events input new intent) (λ old. new_one old new intent))

pub update_one : (old new intent events : List ℕ) (held : Held) (input : List ℕ) (a b : Output)
    → (update_spec old new intent events).wants held input a → (update_spec old new intent events).wants held input b → a ≡ b
update_one old new intent events held input = old_one events input (file_named held old) (file_named held new) (file_named held intent)
