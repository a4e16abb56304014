-- Need not be believed: helps proofs and other laws.
-- Terms beside those of `specs/KeptSteps.antt`.
use Rattle.std.specs.Prelude.{ℕ, IsTrue, IsSome, List, Contains}
use Rattle.net_model.specs.Network.{Network}
use Rattle.intent_reader.specs.declared.intent.Step.{Step}
use Rattle.intent_reader.specs.declared.intent.Step.TheVariants.{Links, Function, Reach}
use Rattle.loose_walks.specs.WalkStops.{ends_in}
use Rattle.leg_table.specs.StepMatching.{has_link}
use Rattle.leg_table.specs.WalkTrace.{Crossed, TraceEvent, Executed}

-- ---- the links of such traces

-- a step may cross the links of its set; on the way to a node any link that leads to a node
abbrev pub MayCross : Network → Step → ℕ → Type 0
MayCross net (Links set) link = IsTrue (has_link set link)
MayCross net (Function sid) link = ⊥
MayCross net (Reach node) link = IsSome (ends_in net link)

-- of an event of a link this holds of the link
abbrev pub OnCrossed : (ℕ → Type 0) → TraceEvent → Type 0
OnCrossed Holds (Crossed link) = Holds link
OnCrossed Holds (Executed n) = Unit {0}

-- a link that is crossed is one that a step may cross
abbrev pub IsOfSteps : Network → List Step → TraceEvent → Type 0
IsOfSteps net steps = OnCrossed (λ link. (step : Step) × Contains steps step × MayCross net step link)
