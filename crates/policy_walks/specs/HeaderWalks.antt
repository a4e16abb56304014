-- Need not be believed: helps proofs and other laws.
-- The code's view of the walk of a pushed header.
use Rattle.std.specs.Prelude.{◌≡◌, ℕ, ◌≤◌, if◌then◌else◌, List, [], ◌∷◌, length, drop, reverse, Option, Some, None}
use Rattle.srv6_rules.specs.Packet.{Packet, Content}
use Rattle.srv6_rules.specs.Endpoint.{Endpoint, Onward, Exposed, Delivered, Refused}
use Rattle.net_model.specs.Network.{Network}
use Rattle.walk_rules.specs.declared.place.Place.{Place}
use Rattle.walk_rules.specs.Relation.{IsPlace}
use Rattle.walk_rules.specs.Walk.{arrival}
use Rattle.walk_rules.specs.Way.{Way}
use Rattle.intent_reader.specs.IntentRules.{first_end}
use Rattle.intent_reader.specs.declared.intent.Step.{Step}
use Rattle.leg_table.specs.Transits.{all_in_step}
use Rattle.leg_table.specs.WalkTrace.{TraceEvent}
use Rattle.binding_spec.specs.OwnHands.{most_stages}
use Rattle.binding_spec.specs.Machines.{Move, End, end_of, end_with}
use Rattle.binding_spec.specs.TunnelPackets.{Inside, World, inside_by, inside_move}
use Rattle.binding_spec.specs.NetworkWorld.{look_by, step_events, world}
use Rattle.policy_walks.specs.declared.top_header.Came.{Came}
use Rattle.policy_walks.specs.declared.top_header.Came.TheVariants as cames
use Rattle.policy_walks.specs.declared.header_stage.Headers.{Headers}
use Rattle.policy_walks.specs.declared.header_stage.Stage.{Stage}
use Rattle.policy_walks.specs.declared.header_stage.Stage.TheVariants as stages
use Rattle.binding_spec.specs.declared.origin.Origin.{Origin}

-- ---- at a SID

abbrev pub IsLost : Endpoint → Type 0
IsLost (Onward q) = ⊥
IsLost (Exposed family bytes) = ⊥
IsLost (Delivered q) = Unit {0}
IsLost (Refused reason at) = Unit {0}

-- what came of a header
abbrev pub ComesTo : Endpoint → Came → Type 0
ComesTo e (cames.On head) = e ≡ Onward head
ComesTo e (cames.Off family) = (bytes : List ℕ) × (e ≡ Exposed family bytes)
ComesTo e cames.Lost = IsLost e

-- ---- headers

abbrev pub world_of : Network → World ℕ TraceEvent Step ℕ Place Packet Content
world_of net = world net most_stages

-- headers as a state of the machine
abbrev pub inside_of : Headers → Inside Place Packet
inside_of h = record { place = h.place; head = h.top; above = reverse h.below.items }

-- what the machine does with the header on top, on a way
abbrev pub way_move : Network → Headers → Way → Move ℕ TraceEvent ℕ (Inside Place Packet) Place
way_move net h way = inside_by (world_of net) (reverse h.below.items) (look_by net h.place way h.top)

-- where links lead that all lie in the first step
abbrev pub place_over : Network → Place → List ℕ → List Step → Option Place
place_over net place links [] = None
place_over net place links (t ∷ ts) = if all_in_step t links then arrival (first_end net links) place else None

-- ---- stages

-- how a walk ends from a state along steps
abbrev pub Walking : Type 0
Walking = List Step → Inside Place Packet → Option (End Step ℕ Place)

-- and behind a stage
abbrev pub end_stage : Walking → List Step → Stage → Option (End Step ℕ Place)
end_stage go steps (stages.On headers done) = go (drop done steps) (inside_of headers)
end_stage go steps (stages.Off place done) = Some (end_with [] place (drop done steps))
end_stage go steps stages.Lost = None

-- behind a stage headers stand at a place of the network, and no more steps are done than there are
abbrev pub StandsThere : Network → List Step → Stage → Type 0
StandsThere net steps (stages.On headers done) = IsPlace net headers.place × (done ≤ length steps)
StandsThere net steps (stages.Off place done) = done ≤ length steps
StandsThere net steps stages.Lost = Unit {0}

-- what comes of headers of which the one on top was taken off: the next one is on top, or it was the last
abbrev pub IsTakenOff : Place → List Packet → ℕ → Stage → Type 0
IsTakenOff place above done (stages.On headers more) =
    (headers.place ≡ place) × (above ≡ headers.top ∷ reverse headers.below.items) × (more ≡ done)
IsTakenOff place above done (stages.Off there more) = (there ≡ place) × (above ≡ []) × (more ≡ done)
IsTakenOff place above done stages.Lost = ⊥

-- ---- whole walks

-- the end of a walk that came to an origin
abbrev pub end_at : List Step → Origin → End Step ℕ Place
end_at steps origin = end_with [] origin.place (drop origin.done steps)

abbrev pub inside_end : Network → ℕ → Walking
inside_end net k ts i = end_of step_events (inside_move (world_of net)) k ts i
