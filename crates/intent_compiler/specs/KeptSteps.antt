-- Traces of walks that keep to the steps of an intent.
use Rattle.std.specs.Prelude.{Bool, true, false, IsTrue, List, map}
use Rattle.net_model.specs.Network.{Network}
use Rattle.intent_reader.specs.declared.intent.Intent.{Intent}
use Rattle.intent_reader.specs.IntentRules.{has_reach}
use Rattle.intent_traces.specs.Traces.{Matches}
use Rattle.loose_walks.specs.WalkStops.{ends_in}
use Rattle.leg_table.specs.StepMatching.{matches}
use Rattle.leg_table.specs.WalkTrace.{TraceEvent}
use Rattle.loose_spec.specs.LooseExecutions.{trace_event}
pub use Rattle.loose_legs.specs.IntentSteps.{trace_steps}

abbrev pub KeepsIf : Bool → Network → Intent → List TraceEvent → Type 0
KeepsIf true net intent trace = Matches (ends_in net) (trace_steps intent) (map trace_event trace)
KeepsIf false net intent trace = IsTrue (matches intent.steps trace)

-- where a step is loose, the trace splits into the steps' parts; else its events meet the steps, one each
abbrev pub KeepsToSteps : Network → Intent → List TraceEvent → Type 0
KeepsToSteps net intent trace = KeepsIf (has_reach intent.steps) net intent trace
