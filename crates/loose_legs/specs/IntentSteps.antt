-- The steps of an intent, as traces with reaches and ways over graphs know them.
use Rattle.std.specs.Prelude.{List, map}
use Rattle.intent_reader.specs.declared.intent.Step.{Step}
use Rattle.intent_reader.specs.declared.intent.Step.TheVariants as intents
use Rattle.intent_reader.specs.declared.intent.Intent.{Intent}
use Rattle.intent_traces.specs.declared.trace_steps.TraceStep.{TraceStep as TraceStep}
use Rattle.intent_traces.specs.declared.trace_steps.TraceStep.TheVariants as traces

abbrev pub trace_step : Step → TraceStep
trace_step (intents.Links set) = traces.Links set
trace_step (intents.Function sid) = traces.Function sid
trace_step (intents.Reach node) = traces.Reach node

abbrev pub trace_steps : Intent → List TraceStep
trace_steps intent = map trace_step intent.steps
