-- What is executed in stages: which SID, at which node, and after how many finished steps.
use Rattle.std.specs.Prelude.{ℕ, ◌-◌, List, [], ◌∷◌, ◌++◌, length, map, Option, Some, None}
use Rattle.net_model.specs.Network.{Network}
use Rattle.walk_rules.specs.declared.place.Outcome.{Outcome}
use Rattle.walk_rules.specs.declared.place.Outcome.TheVariants as outcomes
use Rattle.walk_rules.specs.Walk.{Stage}
use Rattle.intent_traces.specs.declared.trace_steps.TraceStep.{TraceStep}
use Rattle.intent_traces.specs.Traces.{left_by}
use Rattle.intent_traces.specs.Traces as traces
use Rattle.loose_walks.specs.WalkStops.{ends_in}
use Rattle.leg_table.specs.WalkTrace.{Crossed, TraceEvent, Executed, events_of}

-- an event of a walk's trace, as traces that keep to steps know it
abbrev pub trace_event : TraceEvent → traces.StepEvent
trace_event (Crossed link) = traces.Crossed link
trace_event (Executed n) = traces.Executed n

-- a SID was executed at a node, and by then so many steps were finished; where the SID has a title, its own function is among them
pub record Execution : Type 0 where
  pub sid : ℕ
  pub node : ℕ
  pub finished : ℕ

abbrev pub execution_by : Outcome → ℕ → ℕ → List Execution
execution_by (outcomes.Again n how) node finished = record { sid = n; node = node; finished = finished } ∷ []
execution_by (outcomes.Hand n how family) node finished = record { sid = n; node = node; finished = finished } ∷ []
execution_by (outcomes.Send link) node finished = []
execution_by outcomes.Local node finished = []
execution_by (outcomes.Drop reason error) node finished = []

-- the steps that are left behind an outcome, by the event that it has in the trace, if it has one
abbrev pub left_by_outcome : Network → List TraceStep → Outcome → Option (List TraceStep)
left_by_outcome net ts outcome = left_by (ends_in net) ts (map trace_event (events_of net outcome))

-- the execution of an outcome at a node, and those that come later; none where the outcome does not keep to the steps
abbrev pub executions_from : ℕ → (List TraceStep → List Execution) → Outcome → ℕ → Option (List TraceStep) → List Execution
executions_from count later outcome node None = []
executions_from count later outcome node (Some us) = execution_by outcome node (count - length us) ++ later us

-- the executions in stages, in order, where of so many steps these are left before the first stage
abbrev pub executions_of : Network → ℕ → List TraceStep → List Stage → List Execution
executions_of net count ts [] = []
executions_of net count ts (s ∷ ss) =
    executions_from count (λ us. executions_of net count us ss) s.gave.outcome s.place.node (left_by_outcome net ts s.gave.outcome)
