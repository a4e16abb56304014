-- Traces that keep to the steps of an intent.
use Rattle.std.specs.Prelude.{ℕ, Bool, true, false, ◌==◌, ◌&&◌, if◌then◌else◌, List, [], ◌∷◌, length, Option, Some, None}
use Rattle.std.specs.List.{list_any}
use Rattle.net_model.specs.Network.{Network}
use Rattle.intent_reader.specs.declared.intent.Step.{Step}
use Rattle.intent_reader.specs.declared.intent.Step.TheVariants.{Links, Function, Reach}
use Rattle.leg_table.specs.WalkTrace.{TraceEvent, Crossed, Executed, is_titled}

-- a set has a link
abbrev pub has_link : List ℕ → ℕ → Bool
has_link set link = list_any (λ k. k == link) set

-- an event meets a step: a crossed link is of the step's set, an executed function is the step's; no one event meets a step that
-- reaches a node
abbrev pub meets : Step → TraceEvent → Bool
meets (Links set) (Crossed link) = has_link set link
meets (Links set) (Executed n) = false
meets (Function sid) (Crossed link) = false
meets (Function sid) (Executed n) = sid == n
meets (Reach node) (Crossed link) = false
meets (Reach node) (Executed n) = false

-- the events meet the steps, one each, in order, no more and no fewer
abbrev pub matches : List Step → List TraceEvent → Bool
matches [] [] = true
matches [] (e ∷ es) = false
matches (t ∷ ts) [] = false
matches (t ∷ ts) (e ∷ es) = meets t e && matches ts es

-- ---- the same event by event

-- how many steps are left once SID n was executed: one with a title has to be the first step's function
abbrev pub left_after_function : ℕ → List Step → Option ℕ
left_after_function n [] = None
left_after_function n (Links set ∷ ts) = None
left_after_function n (Function sid ∷ ts) = if sid == n then Some (length ts) else None
left_after_function n (Reach node ∷ ts) = None

abbrev pub left_after : Network → ℕ → List Step → Option ℕ
left_after net n ts = if is_titled net n then left_after_function n ts else Some (length ts)
