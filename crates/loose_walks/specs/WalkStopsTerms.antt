-- Need not be believed: helps proofs and other laws.
-- Terms beside those of `specs/WalkStops.antt`.
use Rattle.std.specs.Prelude.{◌≡◌, ℕ, ◌-◌, ◌≤◌, List, [], ◌∷◌, length, Option, Some, None}
use Rattle.std.specs.Option.{option_and_then}
use Rattle.srv6_rules.specs.Packet.{Content, V6, V4, Unreadable}
use Rattle.net_model.specs.Network.{Network}
use Rattle.walk_rules.specs.declared.place.Outcome.{Outcome}
use Rattle.walk_rules.specs.declared.place.Outcome.TheVariants as outcomes
use Rattle.walk_rules.specs.Walk.{Stage}
use Rattle.walk_rules.specs.Way.{Way, NoWay, Over, Own, Into, way_of}
use Rattle.intent_traces.specs.declared.trace_steps.TraceStep.{TraceStep}
use Rattle.choice_graph.specs.GraphWalksTerms.{End}
use Rattle.intent_traces.specs.Traces.{Ends, Crossed, left_behind}
use Rattle.loose_walks.specs.WalkStops.{ends_in}

-- an outcome that sends nothing
abbrev pub SendsNothing : Outcome → Type 0
SendsNothing (outcomes.Send link) = ⊥
SendsNothing (outcomes.Again n how) = Unit {0}
SendsNothing (outcomes.Hand n how family) = Unit {0}
SendsNothing outcomes.Local = Unit {0}
SendsNothing (outcomes.Drop reason error) = Unit {0}

-- the first stage that sends nothing, and the steps that are left there
pub record Stop : Type 0 where
  pub stage : Stage
  pub left : List TraceStep

-- a link that is crossed has to keep to the steps, and then the rest decides; any other outcome is a stop
abbrev pub stop_by : Ends → (List TraceStep → Option Stop) → List TraceStep → Stage → Outcome → Option Stop
stop_by to rest ts s (outcomes.Send link) = option_and_then rest (left_behind to ts (Crossed link))
stop_by to rest ts s (outcomes.Again n how) = Some (record { stage = s; left = ts })
stop_by to rest ts s (outcomes.Hand n how family) = Some (record { stage = s; left = ts })
stop_by to rest ts s outcomes.Local = Some (record { stage = s; left = ts })
stop_by to rest ts s (outcomes.Drop reason error) = Some (record { stage = s; left = ts })

abbrev pub first_stop : Ends → List TraceStep → List Stage → Option Stop
first_stop to ts [] = None
first_stop to ts (s ∷ ss) = stop_by to (λ us. first_stop to us ss) ts s s.gave.outcome

-- how often the hop limit of a packet can still be lowered by moves: one is kept for the node that it comes to
abbrev pub hops_left_of : Content → ℕ
hops_left_of (V6 p) = p.hop_limit - 1
hops_left_of (V4 p) = 0
hops_left_of (Unreadable bytes reason) = 0

-- a packet has come to a SID: the number of the SID with so many steps left, and its hops_left there
pub record Coming : Type 0 where
  pub answer : ℕ
  pub hops_left : ℕ

-- a stop is at a SID where the way of the packet there leads into one
abbrev pub coming_by : (ℕ → ℕ → ℕ) → Stop → Way → Option Coming
coming_by code stop (NoWay reason) = None
coming_by code stop (Over set lower) = None
coming_by code stop Own = None
coming_by code stop (Into n) = Some (record { answer = code n (length stop.left); hops_left = hops_left_of stop.stage.before })

abbrev pub coming_at : Network → ℕ → (ℕ → ℕ → ℕ) → Stop → Option Coming
coming_at net destination code stop = coming_by code stop (way_of net stop.stage.place destination)

-- to which SID stages come first, with so many steps left
abbrev pub coming : Network → ℕ → (ℕ → ℕ → ℕ) → List TraceStep → List Stage → Option Coming
coming net destination code ts ss = option_and_then (coming_at net destination code) (first_stop (ends_in net) ts ss)

-- stages come first to SID n, with so many steps left, and there the hop limit can be lowered so many times more
pub record ComesTo (net : Network) (destination : ℕ) (ts : List TraceStep) (n left lowers : ℕ) (ss : List Stage) : Type 0 where
  pub stop : Stop
  pub first : first_stop (ends_in net) ts ss ≡ Some stop
  pub into : way_of net stop.stage.place destination ≡ Into n
  pub steps : length stop.left ≡ left
  pub hops_left : lowers ≤ hops_left_of stop.stage.before

-- so does a walk over a graph, where it stops
abbrev pub coming_of : End → Coming
coming_of e = record { answer = e.answer; hops_left = e.hops_left }

abbrev pub answer_of_coming : Option Coming → Option ℕ
answer_of_coming None = None
answer_of_coming (Some c) = Some c.answer
