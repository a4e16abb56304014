-- Steps of an intent of which some may be to reach a node, and where a walk stands between them. The intent is asked for what it has beside
-- its steps.
use Rattle.std.specs.Prelude.{ℕ, ◌-◌, ◌==◌, ◌&&◌, not, nat_lt, if◌then◌else◌, List, [], ◌∷◌, take, drop, length, slice_get, Option, Some, None}
use Rattle.std.specs.Option.{option_and_then}
use Rattle.net_model.specs.Network.{Network}
use Rattle.intent_reader.specs.IntentRules.{far_node, first_end, function_node}
use Rattle.intent_reader.specs.declared.intent.Intent.{Intent}
use Rattle.intent_traces.specs.declared.trace_steps.TraceStep.{TraceStep}
use Rattle.intent_traces.specs.declared.trace_steps.TraceStep.TheVariants.{Links, Function, Reach}

-- a node is reached from another one, over whatever links
abbrev pub reached_from : Network → ℕ → ℕ → Option ℕ
reached_from net node reached = if nat_lt reached (length net.nodes) && not (node == reached) then Some reached else None

-- where a walk stands after a step from a node: at the end of the step's links, where it stood, or at the node that was to be reached
abbrev pub node_after : Network → ℕ → TraceStep → Option ℕ
node_after net node (Links set) = far_node net node set (first_end net set)
node_after net node (Function sid) = function_node node (slice_get net.sids sid)
node_after net node (Reach reached) = reached_from net node reached

-- and after steps, if each starts where the one before it ended
abbrev pub stand_after : Network → ℕ → List TraceStep → Option ℕ
stand_after net node [] = Some node
stand_after net node (t ∷ ts) = option_and_then (λ next. stand_after net next ts) (node_after net node t)

-- where it stands after so many of the steps, from the headend
abbrev pub node_at : Network → Intent → List TraceStep → ℕ → Option ℕ
node_at net intent steps position = stand_after net intent.headend (take position steps)

-- the steps that are left where so many are
abbrev pub steps_left : List TraceStep → ℕ → List TraceStep
steps_left steps left = drop (length steps - left) steps
