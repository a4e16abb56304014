-- Need not be believed: helps proofs and other laws.
-- Where stages first send nothing: behind links whose trace splits into parts of the steps.
use Rattle.std.specs.Prelude.{◌≡◌, ℕ, List, [], ◌∷◌, map}
use Rattle.net_model.specs.Network.{Network}
use Rattle.walk_rules.specs.declared.place.Outcome.TheVariants as outcomes
use Rattle.walk_rules.specs.Walk.{Stage}
use Rattle.intent_traces.specs.declared.trace_steps.TraceStep.{TraceStep}
use Rattle.intent_traces.specs.Traces.{Crossed}
use Rattle.intent_traces.specs.TracesTerms.{Leaves}
use Rattle.loose_walks.specs.WalkStops.{ends_in}
use Rattle.loose_walks.specs.WalkStopsTerms.{SendsNothing, Stop}

-- stages cross these links, one after the other, and then the rest comes
abbrev pub AreSent : List ℕ → List Stage → List Stage → Type 0
AreSent [] ss rest = ss ≡ rest
AreSent (link ∷ links) [] rest = ⊥
AreSent (link ∷ links) (s ∷ ss) rest = (s.gave.outcome ≡ outcomes.Send link) × AreSent links ss rest

-- a stage that sends nothing comes behind links, and their trace splits into the parts of the steps that are finished and what the next one
-- has begun with: where it is to reach a node, links that all lead to another
pub record IsBehindLinks (net : Network) (ts : List TraceStep) (ss : List Stage) (stop : Stop) : Type 0 where
  pub links : List ℕ
  pub rest : List Stage
  pub sent : AreSent links ss (stop.stage ∷ rest)
  pub nothing : SendsNothing stop.stage.gave.outcome
  pub leaves : Leaves (ends_in net) ts (map Crossed links) stop.left
