-- The intent in a network that a description gives, or its first fault: first the headend, then the steps in their
-- order, each from the node where the one before it ended, then whether the last step is a function, and last whether the network has few
-- SIDs where a step is loose.
use Rattle.std.specs.Prelude.{ℕ, suc, Bool, true, false, if◌then◌else◌, List, [], ◌∷◌, Result, Ok, Err}
use Rattle.net_model.specs.Network.{Network}
use Rattle.net_model.specs.Named.{node_numbered, link_numbered}
use Rattle.net_model.specs.NetworkRules.{are_distinct, same_number}
use Rattle.toml_reader.specs.TomlReading.{◌>>=◌, or_fault}
use Rattle.net_syntax.specs.declared.intent_table.Mode.{Mode}
use Rattle.net_syntax.specs.declared.intent_table.Mode.TheVariants as modes
use Rattle.net_syntax.specs.declared.step_table.DescribedStep.{DescribedStep}
use Rattle.net_syntax.specs.declared.step_table.DescribedStep.TheVariants as described
use Rattle.net_syntax.specs.declared.intent_table.DescribedIntent.{DescribedIntent}
use Rattle.net_syntax.specs.IntentText.{intent_in}
use Rattle.intent_reader.specs.declared.intent.Step.{Step}
use Rattle.intent_reader.specs.declared.intent.Step.TheVariants.{Links, Function, Reach}
use Rattle.intent_reader.specs.declared.intent.Intent.{Intent}
use Rattle.intent_reader.specs.declared.fault.IntentFault.{IntentFault}
use Rattle.intent_reader.specs.declared.fault.IntentFault.TheVariants as faults
use Rattle.intent_reader.specs.declared.fault.StepFault.TheVariants as kinds
use Rattle.intent_reader.specs.Functions.{function_numbered}
use Rattle.intent_reader.specs.IntentReading.{checked, each_of, of_text}
use Rattle.intent_reader.specs.IntentRules.{node_after, ends_in_function, is_within_loose_limit}

-- ---- steps; they are counted from 1, and k is a step's number

-- the number of a link in step k
abbrev pub link_at : Network → ℕ → List ℕ → Result ℕ IntentFault
link_at net k name = or_fault (faults.AtStep k kinds.UnknownName) (link_numbered name net.links)

-- step k by its names: its links, each once, the SID with its title, or the node that is to be reached
abbrev pub step_named : Network → ℕ → DescribedStep → Result Step IntentFault
step_named net k (described.Links names) = do
  set ← each_of (link_at net k) names
  checked (faults.AtStep k kinds.DoubleLink) (are_distinct same_number set) (Links set)
step_named net k (described.Function title) = do
  sid ← or_fault (faults.AtStep k kinds.NoFunction) (function_numbered title net)
  Ok (Function sid)
step_named net k (described.Reach name) = do
  node ← or_fault (faults.AtStep k kinds.UnknownName) (node_numbered name net.nodes)
  Ok (Reach node)

-- step k doesn't lead on from the node where it stands: its links don't start there, end apart or leave the network, its SID isn't
-- there, or it stands at the node that is to be reached
abbrev pub astray : ℕ → Step → IntentFault
astray k (Links set) = faults.AtStep k kinds.Broken
astray k (Function sid) = faults.AtStep k kinds.NoFunction
astray k (Reach reached) = faults.AtStep k kinds.Broken

-- steps, the first of which has number k and stands at the node; each later one stands where the one before it ended
abbrev pub steps_from : Network → ℕ → ℕ → List DescribedStep → Result (List Step) IntentFault
steps_from net k node [] = Ok []
steps_from net k node (d ∷ ds) = do
  step ← step_named net k d
  next ← or_fault (astray k step) (node_after net node step)
  steps ← steps_from net (suc k) next ds
  Ok (step ∷ steps)

-- ---- the whole

-- whether the first segment is left out of the segment routing header (RFC 8986 section 5.2)
abbrev pub is_reduced : Mode → Bool
is_reduced modes.Full = false
is_reduced modes.Reduced = true

-- the intent over these numbers
abbrev pub intent_with : DescribedIntent → ℕ → List Step → Intent
intent_with d headend steps = record {
  headend = headend;
  source = d.source;
  inner = d.inner;
  reduced = is_reduced d.mode;
  hop_limit = d.hop_limit;
  max_containers = d.max_containers;
  traffic_class = d.traffic_class;
  flow_label = d.flow_label;
  prefer = d.prefer;
  steps = steps;
}

-- the last step is a function, and a step is loose only where the network has few SIDs
abbrev pub judged_last : Network → Intent → Result Intent IntentFault
judged_last net i =
    if ends_in_function i.steps then checked faults.LooseLimit (is_within_loose_limit net i.steps) i else Err faults.NotFunctionLast

-- the headend counts as step 0
abbrev pub judged : Network → DescribedIntent → Result Intent IntentFault
judged net d = do
  headend ← or_fault (faults.AtStep 0 kinds.UnknownName) (node_numbered d.headend net.nodes)
  steps ← steps_from net 1 headend d.steps
  judged_last net (intent_with d headend steps)

-- the intent that a text gives in a network: first what the text says
abbrev pub intent_of_text : Network → List ℕ → Result Intent IntentFault
intent_of_text net text = do
  d ← of_text (intent_in text)
  judged net d
