-- Need not be believed: helps proofs and other laws.
-- Terms beside those of `specs/Traces.antt`.
use Rattle.std.specs.Prelude.{◌≡◌, ℕ, Bool, true, false, ◌==◌, if◌then◌else◌, List, [], ◌∷◌, ◌++◌, map, Option, Some, None}
use Rattle.intent_traces.specs.declared.trace_steps.TraceStep.{TraceStep}
use Rattle.intent_traces.specs.declared.trace_steps.TraceStep.TheVariants.{Links, Function, Reach}
use Rattle.intent_traces.specs.Traces.{StepEvent, Crossed, Executed, Ends, AllLeadElsewhere, has_link, Matches, left_by}

-- ---- the same event by event

-- no step is left
abbrev pub is_done : Option (List TraceStep) → Bool
is_done None = false
is_done (Some []) = true
is_done (Some (t ∷ ts)) = false

abbrev pub follows : Ends → List StepEvent → List TraceStep → Bool
follows to es ts = is_done (left_by to ts es)

-- ---- traces that stop on the way

-- links behind the steps that are finished: none, or, where the next step is to reach a node, any that lead elsewhere
abbrev pub IsBegun : Ends → List TraceStep → List StepEvent → Type 0
IsBegun to [] es = es ≡ []
IsBegun to (Links set ∷ ts) es = es ≡ []
IsBegun to (Function n ∷ ts) es = es ≡ []
IsBegun to (Reach node ∷ ts) es = (before : List ℕ) × (es ≡ map Crossed before) × AllLeadElsewhere to node before

-- a trace splits into the parts of the steps that are finished and what the next one has begun with; the other steps are left
pub record Leaves (to : Ends) (ts : List TraceStep) (es : List StepEvent) (us : List TraceStep) : Type 0 where
  pub finished : List TraceStep
  pub part : List StepEvent
  pub begun : List StepEvent
  pub steps : ts ≡ finished ++ us
  pub events : es ≡ part ++ begun
  pub matched : Matches to finished part
  pub is_begun : IsBegun to us begun

-- ---- steps of one event each

abbrev pub IsStrict : List TraceStep → Type 0
IsStrict [] = Unit {0}
IsStrict (Links set ∷ ts) = IsStrict ts
IsStrict (Function n ∷ ts) = IsStrict ts
IsStrict (Reach node ∷ ts) = ⊥

abbrev pub meets : TraceStep → StepEvent → Bool
meets (Links set) (Crossed link) = has_link set link
meets (Links set) (Executed n) = false
meets (Function m) (Crossed link) = false
meets (Function m) (Executed n) = m == n
meets (Reach node) (Crossed link) = false
meets (Reach node) (Executed n) = false

-- the events meet the steps, one each, in order, no more and no fewer
abbrev pub meet_each : List TraceStep → List StepEvent → Bool
meet_each [] [] = true
meet_each [] (e ∷ es) = false
meet_each (t ∷ ts) [] = false
meet_each (t ∷ ts) (e ∷ es) = if meets t e then meet_each ts es else false
