-- How the faults of intents are told.
use Rattle.std.specs.Prelude.{ℕ, List, ◌∷◌, ◌++◌, codes}
use Rattle.std.specs.Fmt.{decimal}
use Rattle.text_faults.specs.TextFaults.{fault_text}
use Rattle.net_syntax.specs.declared.limits.TheConstants.{MAX_LOOSE_SIDS}
use Rattle.intent_reader.specs.declared.fault.StepFault.{StepFault}
use Rattle.intent_reader.specs.declared.fault.StepFault.TheVariants as kinds
use Rattle.intent_reader.specs.declared.fault.IntentFault.{IntentFault}
use Rattle.intent_reader.specs.declared.fault.IntentFault.TheVariants as faults

abbrev pub step_fault_number : StepFault → ℕ
step_fault_number kinds.UnknownName = 34
step_fault_number kinds.Broken = 35
step_fault_number kinds.NoFunction = 36
step_fault_number kinds.DoubleLink = 38

abbrev pub intent_fault_number : IntentFault → ℕ
intent_fault_number (faults.Text fault) = 33
intent_fault_number (faults.AtStep step kind) = step_fault_number kind
intent_fault_number faults.NotFunctionLast = 37
intent_fault_number faults.LooseLimit = 46

unfoldable pub step_fault_name : StepFault → List ℕ
step_fault_name kinds.UnknownName = codes "UnknownName"
step_fault_name kinds.Broken = codes "Broken"
step_fault_name kinds.NoFunction = codes "NoFunction"
step_fault_name kinds.DoubleLink = codes "DoubleLink"

-- a fault's name, and the text's fault, the step's number, or the limit
unfoldable pub intent_fault_text : IntentFault → List ℕ
intent_fault_text (faults.Text fault) = codes "Text " ++ fault_text fault
intent_fault_text (faults.AtStep step kind) = step_fault_name kind ++ 32 ∷ decimal step
intent_fault_text faults.NotFunctionLast = codes "NotFunctionLast"
intent_fault_text faults.LooseLimit = codes "LooseLimit " ++ decimal MAX_LOOSE_SIDS
