-- The steps by which an update starts.
use Rattle.std.proofs.Common.{◌≡◌, ℕ, List, Result, Ok, Err, sym, ap, subst}
use Rattle.net_model.specs.Network.{Network}
use Rattle.net_flatness.specs.declared.not_flat.NotFlat.{NotFlat}
use Rattle.net_flatness.specs.Flat.{flatness_of}
use Rattle.update_spec.specs.Planning.{planning}
use Rattle.update_spec.specs.declared.plan_fault.PlanFault.{PlanFault}
use Rattle.update_spec.specs.declared.plan_fault.PlanFault.TheVariants as plans
use Rattle.update_plan.specs.UpdateState.{Plan}
use Rattle.command_output.specs.declared.halt.Failure.TheVariants as failures
use Rattle.command_output.specs.declared.halt.Halt.{Halt}
use Rattle.command_output.specs.declared.halt.Halt.TheVariants as halts
use Rattle.command_output.specs.declared.refusal.Refusal.{Refusal}
use Rattle.command_output.specs.declared.refusal.Refusal.TheVariants as refusals
use Rattle.command_output.specs.declared.conclusion.Text.{Text}
use Rattle.command_output.specs.OutputLinesTerms.{bytes_of_text}
use Rattle.command_output.specs.Outputs.{refused}
use Rattle.command_output.specs.OutputPieces.{Output}
use Rattle.command_inputs.specs.declared.file_judge.BothIntents.{BothIntents}
use Rattle.walk_commands.specs.declared.headend.Headend.{Headend}
use Rattle.walk_commands.specs.declared.opening.Opening.TheVariants as of_intents
use Rattle.walk_commands.specs.WalkCommand.{no_list}
use Rattle.walk_commands.specs.WalkCommandTerms.{StartsAs, WantsNoList}
use Rattle.update_commands.specs.declared.update_opening.UpdateStart.TheVariants as starts
use Rattle.update_commands.specs.UpdateCommand.{BothWant, ListsWant, WithFlat, WithPlan, limit_refusal}
use Rattle.update_commands.specs.UpdateCommandTerms.{IsPlanHalt, IsRefusedBy, PlansAs, UpdateStartsAs}

module _ (old new : Network) where
  -- ---- what is wanted where there is no plan

  no_plan : (fault : PlanFault) (refusal : Refusal) (Follow : Output → Type 0) → IsPlanHalt fault (halts.Refused refusal)
      → WithPlan (Err fault) Follow (refused refusal)
  no_plan (plans.Differs table item) refusal Follow h = let same : refusal ≡ refusals.Differs table item = cc in ap refused same
  no_plan (plans.Conflict before after) refusal Follow h =
      let same : refusal ≡ refusals.Conflict (record { entry = before }) (record { entry = after }) = cc in ap refused same
  no_plan (plans.Limit table) refusal Follow h = let same : refusal ≡ limit_refusal table = cc in ap refused same
  no_plan plans.NoMemory refusal Follow h = absurd (cc)

  is_refused : (one other : Result (Unit {0}) NotFlat) (plan : Result (Unit {0}) PlanFault) (refusal : Refusal) (Follow : Output → Type 0)
      → IsRefusedBy old new one other plan refusal → WithFlat old one (WithFlat new other (WithPlan plan Follow)) (refused refusal)
  is_refused (Err why) other plan refusal Follow h = ap refused h
  is_refused (Ok u) (Err why) plan refusal Follow h = ap refused h
  is_refused (Ok u) (Ok v) (Err fault) refusal Follow h = no_plan fault refusal Follow h
  is_refused (Ok u) (Ok v) (Ok w) refusal Follow h = absurd h

  module _ (both : BothIntents) where
    pub plan_halts : (halt : Halt) → PlansAs old new (Err halt) → UpdateStartsAs old new both (Err halt)
    plan_halts (halts.Refused refusal) h = λ events input.
        is_refused (flatness_of old) (flatness_of new) (planning old new) refusal (ListsWant old new both events input) h
    plan_halts (halts.Failed failures.Fault) h = absurd h
    plan_halts (halts.Failed failures.NoMemory) h = tt

    -- ---- with a plan

    module _ (plan : Plan) (p : PlansAs old new (Ok plan)) where
      with_plan : (events input : List ℕ) (output : Output) → ListsWant old new both events input output
          → BothWant old new both events input output
      with_plan events input output h =
          let Lists : Output → Type 0 = ListsWant old new both events input in
          let Planned : Output → Type 0 = WithPlan (planning old new) Lists in
          let New : Output → Type 0 = WithFlat new (flatness_of new) Planned in
          let three : Planned output = subst (λ (r : Result (Unit {0}) PlanFault). WithPlan r Lists output) (sym p.2) h in
          let two : New output = subst (λ (r : Result (Unit {0}) NotFlat). WithFlat new r Planned output) (sym p.1) three in
          subst (λ (r : Result (Unit {0}) NotFlat). WithFlat old r New output) (sym p.0) two

      old_wanting : (output : Output) → WantsNoList old both.before output → (events input : List ℕ)
          → BothWant old new both events input output
      old_wanting output w events input = with_plan events input output (Err w.0, w.1, w.2, w.3)

      pub old_none : (line : Text) → StartsAs old both.before (Ok (of_intents.NoList line))
          → UpdateStartsAs old new both (Ok (starts.NoList line))
      old_none line h = old_wanting (no_list (bytes_of_text line)) h

      module _ (before : Headend) (b : StartsAs old both.before (Ok (of_intents.List before))) where
        new_wanting : (output : Output) → WantsNoList new both.after output → (events input : List ℕ)
            → BothWant old new both events input output
        new_wanting output w events input = with_plan events input output (Ok b.0, b.1, b.2, (Err w.0, w.1, w.2, w.3))

        pub new_none : (line : Text) → StartsAs new both.after (Ok (of_intents.NoList line))
            → UpdateStartsAs old new both (Ok (starts.NoList line))
        new_none line h = new_wanting (no_list (bytes_of_text line)) h
