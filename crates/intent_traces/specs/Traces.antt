-- Traces that keep to steps.
use Rattle.std.specs.Prelude.{◌≡◌, ◌≢◌, ℕ, Bool, true, ◌==◌, if◌then◌else◌, List, [], ◌∷◌, ◌++◌, length, map, Option, Some, None}
use Rattle.std.specs.List.{list_any}
use Rattle.std.specs.Option.{option_map, option_and_then}
use Rattle.intent_traces.specs.declared.trace_steps.TraceStep.{TraceStep}
use Rattle.intent_traces.specs.declared.trace_steps.TraceStep.TheVariants.{Links, Function, Reach}

-- what a trace speaks of: a link that was crossed, a function that was executed
pub data StepEvent : Type 0 where
  Crossed : ℕ → StepEvent
  Executed : ℕ → StepEvent

-- where links end: at a node, or out of the network
abbrev pub Ends : Type 0
Ends = ℕ → Option ℕ

-- a link leads to a node, but to another than this
abbrev pub LeadsElsewhere : Ends → ℕ → ℕ → Type 0
LeadsElsewhere to node link = (other : ℕ) × (to link ≡ Some other) × (other ≢ node)

abbrev pub AllLeadElsewhere : Ends → ℕ → List ℕ → Type 0
AllLeadElsewhere to node [] = Unit {0}
AllLeadElsewhere to node (link ∷ links) = LeadsElsewhere to node link × AllLeadElsewhere to node links

abbrev pub has_link : List ℕ → ℕ → Bool
has_link set link = list_any (λ k. k == link) set

-- the part of a step: one link of the set; the function; or links that all lead to a node, the last one to the node that is to be
-- reached and none before it
abbrev pub IsPart : Ends → TraceStep → List StepEvent → Type 0
IsPart to (Links set) es = (link : ℕ) × (es ≡ Crossed link ∷ []) × (has_link set link ≡ true)
IsPart to (Function n) es = es ≡ Executed n ∷ []
IsPart to (Reach node) es = (before : List ℕ) × (last : ℕ) × (es ≡ map Crossed before ++ (Crossed last ∷ []))
    × AllLeadElsewhere to node before × (to last ≡ Some node)

-- a trace splits into parts, one for each step, in order
abbrev pub Matches : Ends → List TraceStep → List StepEvent → Type 0
Matches to [] es = es ≡ []
Matches to (t ∷ ts) es = (part : List StepEvent) × (rest : List StepEvent) × (es ≡ part ++ rest) × IsPart to t part × Matches to ts rest

-- ---- the same event by event

-- at a link to the node the reach is finished, at one to another node it goes on, out of the network it fails
abbrev pub left_by_reach : ℕ → List TraceStep → Option ℕ → Option (List TraceStep)
left_by_reach node ts None = None
left_by_reach node ts (Some other) = if other == node then Some ts else Some (Reach node ∷ ts)

-- the steps that are left behind one event
abbrev pub left_behind : Ends → List TraceStep → StepEvent → Option (List TraceStep)
left_behind to [] e = None
left_behind to (Links set ∷ ts) (Crossed link) = if has_link set link then Some ts else None
left_behind to (Links set ∷ ts) (Executed n) = None
left_behind to (Function m ∷ ts) (Crossed link) = None
left_behind to (Function m ∷ ts) (Executed n) = if m == n then Some ts else None
left_behind to (Reach node ∷ ts) (Crossed link) = left_by_reach node ts (to link)
left_behind to (Reach node ∷ ts) (Executed n) = None

-- how many they are
abbrev pub count_left : Option (List TraceStep) → Option ℕ
count_left ts = option_map (λ us. length us) ts

-- and behind events, one after the other
abbrev pub left_by : Ends → List TraceStep → List StepEvent → Option (List TraceStep)
left_by to ts [] = Some ts
left_by to ts (e ∷ es) = option_and_then (λ us. left_by to us es) (left_behind to ts e)
