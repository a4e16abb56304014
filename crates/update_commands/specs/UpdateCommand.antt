-- The command `update`: the inner packets of the input, at the headend of one intent, while the nodes' tables pass from the description of
-- one file to that of another.
use Rattle.std.specs.Prelude.{◌≡◌, ℕ, ◌+◌, Bool, true, false, is_ok, if◌then◌else◌, List, [], ◌∷◌, codes, Option, Some, None, Result, Ok, Err, IsSomeAnd, pos}
use Rattle.text_faults.specs.declared.text_place.TableKind.{TableKind}
use Rattle.text_faults.specs.declared.text_place.TableKind.TheVariants as tables
use Rattle.text_faults.specs.declared.text_place.Key.TheVariants as keys
use Rattle.text_faults.specs.declared.fault_kind.FaultKind.{FaultKind}
use Rattle.text_faults.specs.declared.fault_kind.FaultKind.TheVariants as kinds
use Rattle.net_model.specs.declared.limits.TheConstants.{MAX_ROUTES, MAX_SIDS_OF_NODE}
use Rattle.net_model.specs.Network.{Network}
use Rattle.net_flatness.specs.declared.not_flat.NotFlat.{NotFlat}
use Rattle.net_flatness.specs.Flat.{flatness_of}
use Rattle.intent_reader.specs.declared.intent.Intent.{Intent}
use Rattle.path_compiler.specs.declared.compiled.Compiled.{Compiled}
use Rattle.path_compiler.specs.declared.compiled.CompileFault.{CompileFault}
use Rattle.update_spec.specs.Planning.{planning}
use Rattle.update_spec.specs.declared.plan_fault.PlanFault.{PlanFault}
use Rattle.update_spec.specs.declared.plan_fault.PlanFault.TheVariants as plans
use Rattle.update_plan.specs.UpdateState.{Plan, plan_of}
use Rattle.srx_edge.specs.Edge.{file_named}
use Rattle.command_output.specs.declared.refusal.Refusal.{Refusal}
use Rattle.command_output.specs.declared.refusal.Refusal.TheVariants as refusals
use Rattle.command_output.specs.declared.status.Status.TheVariants as statuses
use Rattle.command_output.specs.Halts.{flat_refusal}
use Rattle.command_output.specs.Outputs.{refused, after, ended_by}
use Rattle.command_output.specs.OutputPieces.{Output}
use Rattle.command_output.specs.CommandSpec.{CommandSpec}
use Rattle.command_output.specs.Verbs.{TwoWords, is_word, two_words}
use Rattle.command_inputs.specs.declared.input_packets.Packets.{Packets}
use Rattle.command_inputs.specs.declared.file_judge.BothIntents.{BothIntents}
use Rattle.command_inputs.specs.ChoiceWords.{events_in}
use Rattle.command_inputs.specs.Judgements.{network_in, intents_in}
use Rattle.command_inputs.specs.InputPackets.{packets_in, reading_of, fault_of}
use Rattle.walk_commands.specs.WalkLists.{CompiledWants, IsCompiledFor}
use Rattle.walk_commands.specs.WalkCommand.{NoListWants}
use Rattle.update_driver.specs.Events.{update_pieces}
use Rattle.update_driver.specs.Moving.{Sides}
use Rattle.update_commands.specs.WholeUpdate.{PacketsKeep, sides_of}

-- ---- its words: the two descriptions and the intent, none of them empty; the events may follow

pub record UpdateWords : Type 0 where
  pub old : List ℕ
  pub new : List ℕ
  pub intent : List ℕ
  pub events : List ℕ

abbrev pub words_with : TwoWords → List ℕ → Option (List ℕ) → Option UpdateWords
words_with files intent None = None
words_with files intent (Some events) =
    if is_word intent then Some (record { old = files.first; new = files.second; intent = intent; events = events }) else None

abbrev pub words_behind : TwoWords → List (List ℕ) → Option UpdateWords
words_behind files [] = None
words_behind files (intent ∷ []) = words_with files intent (Some [])
words_behind files (intent ∷ events ∷ []) = words_with files intent (events_in events)
words_behind files (intent ∷ events ∷ next ∷ more) = None

abbrev pub update_by : Option TwoWords → Option UpdateWords
update_by None = None
update_by (Some files) = words_behind files files.more

abbrev pub update_words : List (List ℕ) → Option UpdateWords
update_words words = update_by (two_words (codes "update") words)

-- ---- what is wanted of two descriptions and an intent in both

-- what is too many, of routes or else of SIDs, with the least count that can be: of all routes, and of the SIDs of a node
abbrev pub too_many : TableKind → FaultKind
too_many tables.Route = kinds.Limit keys.Route (pos (MAX_ROUTES + 1))
too_many other = kinds.Limit keys.Sid (pos (MAX_SIDS_OF_NODE + 1))

-- a table that the entries of both descriptions overfill
abbrev pub limit_refusal : TableKind → Refusal
limit_refusal table = refusals.Net (record { place = record { table = table; item = 0 }; kind = too_many table })

-- the input is judged where there are both lists

abbrev pub updated : Network → Sides → Plan → List ℕ → Packets → Output
updated old sides plan events packets =
    ended_by (update_pieces old sides plan (reading_of packets).frames events) (fault_of (reading_of packets))

abbrev pub update_output : Network → Sides → Plan → List ℕ → List ℕ → Output
update_output old sides plan events input = after (packets_in input) (updated old sides plan events)

-- with a list what follows, and else what `walk` has where there is none
abbrev pub WithList : (Compiled → Output → Type 0) → Network → Intent → Result Compiled CompileFault → Output → Type 0
WithList Follow net intent (Ok c) output = Follow c output
WithList Follow net intent (Err fault) output = NoListWants net fault output

-- the output with both lists, and what is so of each packet
abbrev pub PacketsWant : Network → Network → BothIntents → List ℕ → List ℕ → Compiled → Compiled → Output → Type 0
PacketsWant old new both events input before after output =
    (output ≡ update_output old (sides_of old new both before after) (plan_of old new) events input)
    × PacketsKeep old new both before after

-- the list of the old description, then that of the new one
abbrev pub ListsWant : Network → Network → BothIntents → List ℕ → List ℕ → Output → Type 0
ListsWant old new both events input output =
    CompiledWants (WithList (λ before. CompiledWants (WithList (λ after.
    PacketsWant old new both events input before after)) new both.after)) old both.before output

-- descriptions between which there is a plan have what follows, and others the line of the first fault
abbrev pub WithPlan : Result (Unit {0}) PlanFault → (Output → Type 0) → Output → Type 0
WithPlan (Ok u) Follow output = Follow output
WithPlan (Err (plans.Differs table item)) Follow output = output ≡ refused (refusals.Differs table item)
WithPlan (Err (plans.Conflict before after)) Follow output =
    output ≡ refused (refusals.Conflict (record { entry = before }) (record { entry = after }))
WithPlan (Err (plans.Limit table)) Follow output = output ≡ refused (limit_refusal table)
WithPlan (Err plans.NoMemory) Follow output = ⊥

-- a flat network has what follows, and another its refusal
abbrev pub WithFlat : Network → Result (Unit {0}) NotFlat → (Output → Type 0) → Output → Type 0
WithFlat net (Ok u) Follow output = Follow output
WithFlat net (Err why) Follow output = output ≡ refused (flat_refusal net why)

-- flatness of the old description, then of the new one, then the plan, then the lists
abbrev pub BothWant : Network → Network → BothIntents → List ℕ → List ℕ → Output → Type 0
BothWant old new both events input output =
    WithFlat old (flatness_of old) (WithFlat new (flatness_of new)
    (WithPlan (planning old new) (ListsWant old new both events input))) output

-- what was judged well has what follows, and else the refusal
abbrev pub WithJudged : {A : Type 0} → Result A Refusal → (A → Output → Type 0) → Output → Type 0
WithJudged (Ok a) Follow output = Follow a output
WithJudged (Err refusal) Follow output = output ≡ refused refusal

-- the files in the order of the words; the intent is judged in the old description, and then in the new one

abbrev pub IntentWants : Network → Network → List ℕ → List ℕ → Option (List ℕ) → Output → Type 0
IntentWants old new events input told output = IsSomeAnd told (λ text.
    WithJudged (intents_in old new text) (λ both. BothWant old new both events input) output)

abbrev pub NewWants : Network → List ℕ → List ℕ → Option (List ℕ) → Option (List ℕ) → Output → Type 0
NewWants old events input told intent output = IsSomeAnd told (λ text.
    WithJudged (network_in text) (λ new. IntentWants old new events input intent) output)

abbrev pub OldWants : List ℕ → List ℕ → Option (List ℕ) → Option (List ℕ) → Option (List ℕ) → Output → Type 0
OldWants events input told new intent output = IsSomeAnd told (λ text.
    WithJudged (network_in text) (λ old. NewWants old events input new intent) output)

-- ---- the input is read only where there is a plan, and both lists

abbrev pub IfJudged : {A : Type 0} → Result A Refusal → (A → Type 0) → Type 0
IfJudged (Ok a) P = P a
IfJudged (Err refusal) P = ⊥

abbrev pub HasLists : Network → Network → BothIntents → Type 0
HasLists old new both = (planning old new ≡ Ok tt)
    × ((before : Compiled) × IsCompiledFor old both.before before) × ((after : Compiled) × IsCompiledFor new both.after after)

abbrev pub ReadsWithIntent : Network → Network → Option (List ℕ) → Type 0
ReadsWithIntent old new told = IsSomeAnd told (λ text. IfJudged (intents_in old new text) (HasLists old new))

abbrev pub ReadsWithNew : Network → Option (List ℕ) → Option (List ℕ) → Type 0
ReadsWithNew old told intent = IsSomeAnd told (λ text. IfJudged (network_in text) (λ new. ReadsWithIntent old new intent))

abbrev pub ReadsInput : Option (List ℕ) → Option (List ℕ) → Option (List ℕ) → Type 0
ReadsInput told new intent = IsSomeAnd told (λ text. IfJudged (network_in text) (λ old. ReadsWithNew old new intent))

-- each description is judged before the next file is read
abbrev pub asks_behind_networks : List (List ℕ) → Bool
asks_behind_networks [] = false
asks_behind_networks (old ∷ []) = is_ok (network_in old)
asks_behind_networks (old ∷ new ∷ more) = is_ok (network_in new)

abbrev pub update_spec : List ℕ → List ℕ → List ℕ → List ℕ → CommandSpec
update_spec old new intent events = record {
  files = old ∷ new ∷ intent ∷ [];
  goes_on = asks_behind_networks;
  reads = true;
  leaves_input = λ held. ¬ ReadsInput (file_named held old) (file_named held new) (file_named held intent);
  lines_last = false;
  statuses = statuses.Done ∷ statuses.Refused ∷ statuses.NoAnswer ∷ [];
  wants = λ held input output. OldWants events input (file_named held old) (file_named held new) (file_named held intent) output;
}
