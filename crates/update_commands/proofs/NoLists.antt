-- The input isn't read where there is no plan, or a list is wanting.
use Rattle.std.proofs.Common.{◌≡◌, ◌≢◌, ℕ, List, [], ◌∷◌, Option, None, Some, Result, Ok, Err, refl, ap, ◌∙◌, subst}
use Rattle.std.specs.Prelude.{IsSomeAnd}
use Rattle.net_model.specs.Network.{Network}
use Rattle.net_flatness.specs.Flat.{flatness_of}
use Rattle.net_flatness.specs.declared.not_flat.NotFlat.{NotFlat}
use Rattle.intent_reader.specs.declared.intent.Intent.{Intent}
use Rattle.path_compiler.specs.declared.compiled.Compiled.{Compiled}
use Rattle.path_compiler.specs.declared.compiled.CompileFault.{CompileFault}
use Rattle.update_spec.specs.Planning.{planning}
use Rattle.update_spec.specs.declared.plan_fault.PlanFault.{PlanFault}
use Rattle.update_plan.specs.UpdateState.{plan_of}
use Rattle.command_output.specs.declared.refusal.Refusal.{Refusal}
use Rattle.command_output.specs.declared.status.Status.TheVariants as statuses
use Rattle.command_output.specs.OutputPieces.{Output}
use Rattle.command_inputs.specs.declared.file_judge.BothIntents.{BothIntents}
use Rattle.command_inputs.specs.Judgements.{network_in, intents_in}
use Rattle.walk_commands.specs.WalkLists.{IntentAnswers, IsCompiledFor, NoneLessFor}
use Rattle.walk_commands.proofs.PublicLaws.{none_has_list}
use Rattle.update_commands.specs.UpdateCommand.{BothWant, HasLists, IfJudged, ListsWant, ReadsInput, WithFlat, WithList, WithPlan, update_output}
use Rattle.update_commands.specs.WholeUpdate.{sides_of}

-- a text that is there is judged so
abbrev pub GivesText : {A : Type 0} → (List ℕ → Result A Refusal) → Result A Refusal → Option (List ℕ) → Type 0
GivesText judge judged o = IsSomeAnd o (λ text. judge text ≡ judged)

-- the old description is refused
pub none_of_old : (refusal : Refusal) (o p q : Option (List ℕ)) → GivesText network_in (Err refusal) o → ¬ ReadsInput o p q
none_of_old refusal None p q is = λ has. absurd is
none_of_old refusal (Some text) p q is = λ has. rw is at has

-- the new one is
pub none_of_new : (old : Network) (refusal : Refusal) (o p q : Option (List ℕ)) → GivesText network_in (Ok old) o
    → GivesText network_in (Err refusal) p → ¬ ReadsInput o p q
none_of_new old refusal None p q is more = λ has. absurd is
none_of_new old refusal (Some text) None q is more = λ has. absurd more
none_of_new old refusal (Some text) (Some next) q is more = λ has. rw more at (rw is at has)

-- the intent is judged in both, and there is what the input is read for, or not

module _ (old new : Network) (judged : Result BothIntents Refusal) where
  pub none_of_both : (o p q : Option (List ℕ)) → (IfJudged judged (HasLists old new) → ⊥) → GivesText network_in (Ok old) o
      → GivesText network_in (Ok new) p → GivesText (intents_in old new) judged q → ¬ ReadsInput o p q
  none_of_both None p q none is more last = λ has. absurd is
  none_of_both (Some text) None q none is more last = λ has. absurd more
  none_of_both (Some text) (Some next) None none is more last = λ has. absurd last
  none_of_both (Some text) (Some next) (Some intent) none is more last = λ has. none (rw last at (rw more at (rw is at has)))

  pub all_of_both : (o p q : Option (List ℕ)) → IfJudged judged (HasLists old new) → GivesText network_in (Ok old) o
      → GivesText network_in (Ok new) p → GivesText (intents_in old new) judged q → ReadsInput o p q
  all_of_both None p q has is more last = absurd is
  all_of_both (Some text) None q has is more last = absurd more
  all_of_both (Some text) (Some next) None has is more last = absurd last
  all_of_both (Some text) (Some next) (Some intent) has is more last = rw (is, more, last) has

-- ---- an output that isn't Done and is wanted of every input

-- where the intent is compiled, what follows a list is wanted
module _ (net : Network) (intent : Intent) (c : Compiled) (is : IsCompiledFor net intent c) (Follow : Compiled → Output → Type 0) where
  follows_list : (answer : Result Compiled CompileFault) (output : Output) → IntentAnswers net intent answer
      → NoneLessFor net intent answer → WithList Follow net intent answer output → (d : Compiled) × Follow d output
  follows_list (Ok d) output answers none wants = (d, wants)
  follows_list (Err fault) output answers none wants = absurd (none_has_list net intent output (fault, answers, none, wants) (c, is))

module _ (old new : Network) (both : BothIntents) where
  -- an output that is wanted whatever the events and the input are
  abbrev pub WantsAlways : Output → Type 0
  WantsAlways output = (events input : List ℕ) → BothWant old new both events input output

  lists_want : (output : Output) → HasLists old new both → BothWant old new both [] (96 ∷ []) output
      → ListsWant old new both [] (96 ∷ []) output
  lists_want output has wants =
      let Lists : Output → Type 0 = ListsWant old new both [] (96 ∷ []) in
      let Plan : Output → Type 0 = WithPlan (planning old new) Lists in
      let New : Output → Type 0 = WithFlat new (flatness_of new) Plan in
      let one : WithFlat old (Ok tt) New output =
      subst (λ (r : Result (Unit {0}) NotFlat). WithFlat old r New output) (has.1.1.flat) wants in
      let two : WithFlat new (Ok tt) Plan output =
      subst (λ (r : Result (Unit {0}) NotFlat). WithFlat new r Plan output) (has.2.1.flat) one in
      subst (λ (r : Result (Unit {0}) PlanFault). WithPlan r Lists output) has.0 two

  pub no_lists_always : (output : Output) → output.status ≢ statuses.Done → WantsAlways output → ¬ HasLists old new both
  no_lists_always output early wants = λ has.
      let w = lists_want output has (wants [] (96 ∷ [])) in
      let before = follows_list old both.before has.1.0 has.1.1 _ w.0 output w.1 w.2 w.3 in
      let v = before.1 in
      let after = follows_list new both.after has.2.0 has.2.1 _ v.0 output v.1 v.2 v.3 in
      let whole : (update_output old (sides_of old new both before.0 after.0) (plan_of old new) [] (96 ∷ [])).status ≡ statuses.Done =
      refl in
      early (ap (λ (o : Output). o.status) after.1.0 ∙ whole)
