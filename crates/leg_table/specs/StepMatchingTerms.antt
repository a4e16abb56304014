-- Need not be believed: helps proofs and other laws.
-- Terms beside those of `specs/StepMatching.antt`.
use Rattle.std.specs.Prelude.{Bool, true, false, if◌then◌else◌, List, [], ◌∷◌, Option, Some, None}
use Rattle.std.specs.Option.{option_and_then}
use Rattle.intent_reader.specs.declared.intent.Step.{Step}
use Rattle.leg_table.specs.WalkTrace.{TraceEvent}
use Rattle.leg_table.specs.StepMatching.{meets}

-- ---- the same event by event

-- the steps that are left after one event, which has to meet the first of them
abbrev pub advance : List Step → TraceEvent → Option (List Step)
advance [] e = None
advance (t ∷ ts) e = if meets t e then Some ts else None

-- and after events, one after the other
abbrev pub left_by : List Step → List TraceEvent → Option (List Step)
left_by ts [] = Some ts
left_by ts (e ∷ es) = option_and_then (λ us. left_by us es) (advance ts e)

-- no step is left
abbrev pub is_done : Option (List Step) → Bool
is_done None = false
is_done (Some []) = true
is_done (Some (t ∷ ts)) = false
