-- What the tree of an intent says, or its first fault, in the written order. Names stay texts, since whether they
-- are known is judged later.
use Rattle.std.specs.Prelude.{ℕ, pos, nat_le, if◌then◌else◌, List, [], ◌∷◌, length, Option, Some, None, Result, Ok, Err}
use Rattle.toml.specs.Data.{Data, Members, get_member}
use Rattle.text_faults.specs.declared.text_place.FaultPlace.{FaultPlace}
use Rattle.text_faults.specs.declared.text_place.Key.{Key}
use Rattle.text_faults.specs.declared.text_place.Key.TheVariants as keys
use Rattle.text_faults.specs.declared.text_place.TableKind.TheVariants as tables
use Rattle.text_faults.specs.declared.fault.TextFault.{TextFault}
use Rattle.text_faults.specs.declared.fault_kind.FaultKind.TheVariants as kinds
use Rattle.text_faults.specs.TextFaults.{fault_at}
use Rattle.text_faults.specs.Keys.{key_text}
use Rattle.net_model.specs.declared.limits.TheConstants.{MAX_LINKS_OF_SET, LAST_OCTET, LAST_FLOW_LABEL, DEFAULT_HOP_LIMIT}
use Rattle.toml_reader.specs.TomlReading.{◌>>=◌, or_fault, document_of}
use Rattle.toml_reader.specs.Tree.{name_in, addr_in, word_in, number_in, list_in, needed, optional, only, items_at}
use Rattle.net_syntax.specs.declared.limits.TheConstants.{MAX_STEPS, MAX_CONTAINERS, DEFAULT_CONTAINERS}
use Rattle.net_syntax.specs.declared.step_table.DescribedStep.{DescribedStep}
use Rattle.net_syntax.specs.declared.step_table.DescribedStep.TheVariants as steps
use Rattle.net_syntax.specs.declared.intent_table.DescribedIntent.{DescribedIntent}
use Rattle.net_syntax.specs.declared.intent_table.Prefer.TheVariants as prefers
use Rattle.net_syntax.specs.TextWords.{family_of, mode_of, prefer_of}

-- at least one
abbrev pub some_of : {X : Type 0} → FaultPlace → Key → List X → Result (List X) TextFault
some_of p k xs = if nat_le 1 (length xs) then Ok xs else Err (fault_at p (kinds.Limit k (pos (length xs))))

-- the links of a step
abbrev pub links_at : FaultPlace → Members → Result (List (List ℕ)) TextFault
links_at p t = do
  names ← needed (list_in MAX_LINKS_OF_SET name_in) p t keys.Links
  some_of p keys.Links names

-- a step by what stands at `links`, at `function` and at `reach`: links where none of the others stands, and never two of them
abbrev pub step_by : FaultPlace → Members → Option Data → Option Data → Option Data → Result DescribedStep TextFault
step_by p t links None None = do
  names ← links_at p t
  Ok (steps.Links names)
step_by p t None (Some function) None = do
  title ← needed name_in p t keys.Function
  Ok (steps.Function title)
step_by p t None None (Some reach) = do
  node ← needed name_in p t keys.Reach
  Ok (steps.Reach node)
step_by p t (Some links) (Some function) reach = Err (fault_at p kinds.UnknownKey)
step_by p t (Some links) None (Some reach) = Err (fault_at p kinds.UnknownKey)
step_by p t None (Some function) (Some reach) = Err (fault_at p kinds.UnknownKey)

abbrev pub step_of : FaultPlace → Members → Result DescribedStep TextFault
step_of p t = do
  known ← only (keys.Links ∷ keys.Function ∷ keys.Reach ∷ []) p t
  step_by p known (get_member (key_text keys.Links) known) (get_member (key_text keys.Function) known)
      (get_member (key_text keys.Reach) known)

-- the whole
abbrev pub intent_place : FaultPlace
intent_place = record { table = tables.Intent; item = 0 }

-- the steps, which are needed
abbrev pub steps_at : Members → Result (List DescribedStep) TextFault
steps_at root = do
  here ← or_fault (fault_at intent_place (kinds.MissingKey keys.Step)) (get_member (key_text keys.Step) root)
  all ← items_at tables.Step keys.Step MAX_STEPS step_of root
  some_of (record { table = tables.Step; item = 0 }) keys.Step all

abbrev pub intent_of : Members → Result DescribedIntent TextFault
intent_of root = do
  known ← only (
      keys.Headend ∷ keys.Source ∷ keys.Inner ∷ keys.Mode ∷ keys.HopLimit ∷ keys.MaxContainers ∷ keys.TrafficClass ∷ keys.FlowLabel
      ∷ keys.Prefer ∷ keys.Step ∷ []) intent_place root
  headend ← needed name_in intent_place known keys.Headend
  source ← needed addr_in intent_place known keys.Source
  inner ← needed (word_in family_of) intent_place known keys.Inner
  mode ← needed (word_in mode_of) intent_place known keys.Mode
  limit ← optional (number_in 1 LAST_OCTET) DEFAULT_HOP_LIMIT intent_place known keys.HopLimit
  containers ← optional (number_in 1 MAX_CONTAINERS) DEFAULT_CONTAINERS intent_place known keys.MaxContainers
  class ← optional (number_in 0 LAST_OCTET) 0 intent_place known keys.TrafficClass
  label ← optional (number_in 0 LAST_FLOW_LABEL) 0 intent_place known keys.FlowLabel
  prefer ← optional (word_in prefer_of) prefers.Need intent_place known keys.Prefer
  all ← steps_at known
  Ok (record {
    headend = headend;
    source = source;
    inner = inner;
    mode = mode;
    hop_limit = limit;
    max_containers = containers;
    traffic_class = class;
    flow_label = label;
    prefer = prefer;
    steps = all;
  })

-- what a text says: first whether it is TOML
abbrev pub intent_in : List ℕ → Result DescribedIntent TextFault
intent_in text = do
  root ← or_fault (fault_at intent_place kinds.NotToml) (document_of text)
  intent_of root
