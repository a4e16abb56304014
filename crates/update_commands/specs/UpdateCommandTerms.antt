-- Need not be believed: helps proofs and other laws.
-- Terms beside those of `specs/UpdateCommand.antt`.
use Rattle.std.specs.Prelude.{◌≡◌, ℕ, List, Option, Some, None, Result, Ok, Err, ⊤}
use Rattle.net_model.specs.Network.{Network}
use Rattle.net_flatness.specs.declared.not_flat.NotFlat.{NotFlat}
use Rattle.net_flatness.specs.Flat.{flatness_of}
use Rattle.path_compiler.specs.declared.compiled.Compiled.{Compiled}
use Rattle.update_spec.specs.Planning.{planning}
use Rattle.update_spec.specs.declared.plan_fault.PlanFault.{PlanFault}
use Rattle.update_spec.specs.declared.plan_fault.PlanFault.TheVariants as plans
use Rattle.update_plan.specs.UpdateState.{Plan, plan_of}
use Rattle.command_output.specs.declared.halt.Failure.TheVariants as failures
use Rattle.command_output.specs.declared.halt.Halt.{Halt}
use Rattle.command_output.specs.declared.halt.Halt.TheVariants as halts
use Rattle.command_output.specs.declared.refusal.Refusal.{Refusal}
use Rattle.command_output.specs.declared.refusal.Refusal.TheVariants as refusals
use Rattle.command_output.specs.Halts.{flat_refusal}
use Rattle.command_output.specs.OutputLinesTerms.{bytes_of_text}
use Rattle.command_output.specs.Outputs.{refused, after}
use Rattle.command_inputs.specs.declared.file_judge.BothIntents.{BothIntents}
use Rattle.walk_commands.specs.WalkLists.{IsCompiledFor, IsLeastFor}
use Rattle.walk_commands.specs.WalkCommand.{headend_of, no_list}
use Rattle.update_commands.specs.declared.update_opening.UpdateStart.{UpdateStart}
use Rattle.update_commands.specs.declared.update_opening.UpdateStart.TheVariants as starts
use Rattle.update_commands.specs.declared.update_words.UpdateWords as code
use Rattle.update_commands.specs.UpdateCommand.{UpdateWords, limit_refusal, BothWant}

-- as the code has them

abbrev pub update_words_seen : code.UpdateWords → UpdateWords
update_words_seen words =
    record { old = words.old.now; new = words.new.now; intent = words.intent.now; events = words.events.items }

abbrev pub update_asked : Option code.UpdateWords → Option UpdateWords
update_asked None = None
update_asked (Some words) = Some (update_words_seen words)

-- ---- how an update starts, as its steps answer it

-- a network is flat, or that is refused
abbrev pub FlatAs : Network → Result (Unit {0}) NotFlat → Result (Unit {0}) Halt → Type 0
FlatAs net flat (Ok u) = flat ≡ Ok tt
FlatAs net flat (Err (halts.Refused refusal)) = (why : NotFlat) × (flat ≡ Err why) × (refusal ≡ flat_refusal net why)
FlatAs net flat (Err (halts.Failed failure)) = ⊥

-- why there is no plan; want of memory is no refusal
abbrev pub IsPlanHalt : PlanFault → Halt → Type 0
IsPlanHalt (plans.Differs table item) halt = halt ≡ halts.Refused (refusals.Differs table item)
IsPlanHalt (plans.Conflict before after) halt =
    halt ≡ halts.Refused (refusals.Conflict (record { entry = before }) (record { entry = after }))
IsPlanHalt (plans.Limit table) halt = halt ≡ halts.Refused (limit_refusal table)
IsPlanHalt plans.NoMemory halt = halt ≡ halts.Failed failures.NoMemory

-- the first refusal: of the flatness of the old description, of that of the new one, or of the plan
abbrev pub IsRefusedBy : Network → Network → Result (Unit {0}) NotFlat → Result (Unit {0}) NotFlat → Result (Unit {0}) PlanFault
    → Refusal → Type 0
IsRefusedBy old new (Err why) flat planned refusal = refusal ≡ flat_refusal old why
IsRefusedBy old new (Ok u) (Err why) planned refusal = refusal ≡ flat_refusal new why
IsRefusedBy old new (Ok u) (Ok v) (Err fault) refusal = IsPlanHalt fault (halts.Refused refusal)
IsRefusedBy old new (Ok u) (Ok v) (Ok w) refusal = ⊥

-- a plan between flat descriptions
abbrev pub PlansAs : Network → Network → Result Plan Halt → Type 0
PlansAs old new (Ok plan) =
    (flatness_of old ≡ Ok tt) × (flatness_of new ≡ Ok tt) × (planning old new ≡ Ok tt) × (plan ≡ plan_of old new)
PlansAs old new (Err (halts.Refused refusal)) = IsRefusedBy old new (flatness_of old) (flatness_of new) (planning old new) refusal
PlansAs old new (Err (halts.Failed failures.Fault)) = ⊥
PlansAs old new (Err (halts.Failed failures.NoMemory)) = ⊤

-- with a plan and both lists, or a list is wanting, or the refusal
abbrev pub UpdateStartsAs : Network → Network → BothIntents → Result UpdateStart Halt → Type 0
UpdateStartsAs old new both (Ok (starts.Lists plan sides)) =
    (planning old new ≡ Ok tt) × (plan ≡ plan_of old new) × ((before : Compiled) × (after : Compiled)
    × IsCompiledFor old both.before before × IsLeastFor old both.before before
    × IsCompiledFor new both.after after × IsLeastFor new both.after after
    × (sides.old ≡ headend_of old both.before before) × (sides.new ≡ headend_of new both.after after))
UpdateStartsAs old new both (Ok (starts.NoList told)) =
    (events input : List ℕ) → BothWant old new both events input (no_list (bytes_of_text told))
UpdateStartsAs old new both (Err (halts.Refused refusal)) =
    (events input : List ℕ) → BothWant old new both events input (refused refusal)
UpdateStartsAs old new both (Err (halts.Failed failures.Fault)) = ⊥
UpdateStartsAs old new both (Err (halts.Failed failures.NoMemory)) = ⊤
