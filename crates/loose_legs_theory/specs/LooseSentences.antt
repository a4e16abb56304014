-- Need not be believed: helps proofs and other laws.
-- The sentences on legs and finishes along steps of which some may be loose: what becomes of packets to a next SID, for all
-- choices.
use Rattle.std.specs.Prelude.{◌≡◌, ℕ, ◌-◌, ◌<◌, ◌≤◌, ◌↔◌, Bool, List, drop, length, Option, Some, IsTrue}
use Rattle.srv6_rules.specs.Packet.{Packet, V6}
use Rattle.net_model.specs.Network.{Network}
use Rattle.intent_reader.specs.declared.intent.Intent.{Intent}
use Rattle.list_pack.specs.declared.types.Leg.{Leg}
use Rattle.walk_rules.specs.declared.place.Outcome.{Outcome}
use Rattle.walk_rules.specs.declared.place.Place.{Place}
use Rattle.walk_rules.specs.Walk.{Stage, choice_at, free_walk_of}
use Rattle.intent_traces.specs.declared.trace_steps.TraceStep.{TraceStep}
use Rattle.loose_walks.specs.WalkStops.{ends_in}
use Rattle.loose_walks.specs.WalkStopsTerms.{Stop, first_stop}
use Rattle.leg_table.specs.AllChoices.{AtPlace}
use Rattle.leg_table.specs.StrictLegs.{place_from}
use Rattle.leg_table.specs.StrictLegsTerms.{has_next_segment, has_packet_inside, is_again, is_hand}
use Rattle.leg_table.specs.PositionSids.{is_last, is_middle}
use Rattle.loose_spec.specs.LooseLegs.{left_after}
use Rattle.loose_spec.specs.LooseSids.{is_origin}

-- the first stage that sends nothing, behind links that keep to the steps, executes SID n, by its outcome; so many steps are left behind
-- the execution
pub record ExecutesAlong (net : Network) (executes : ℕ → Outcome → Bool) (ts : List TraceStep) (n left : ℕ) (ss : List Stage) : Type 0 where
  pub stop : Stop
  pub first : first_stop (ends_in net) ts ss ≡ Some stop
  pub outcome : IsTrue (executes n stop.stage.gave.outcome)
  pub behind : left_after net n stop.left ≡ Some left

-- so it is, for every list of choices, in some finite part of a packet's walk from a place
abbrev pub AlwaysExecutes : Network → (ℕ → Outcome → Bool) → List TraceStep → ℕ → ℕ → Packet → Place → Type 0
AlwaysExecutes net executes ts n left p place =
    (choices : List ℕ) → 0 < length choices
    → (fuel : ℕ) × ExecutesAlong net executes ts n left (free_walk_of fuel net (Some place) (V6 p) (choice_at choices) 0)

-- a packet to an address that has a next segment at SID n is taken from a place along the first steps to SID n and executed there, for
-- all choices, with so many steps left; that is so exactly above so many hops: the greatest number of lowerings, with the execution
abbrev pub IsTaken : Network → ℕ → List TraceStep → ℕ → ℕ → ℕ → Place → Type 0
IsTaken net address ts n left hops place =
    (p : Packet) → p.destination ≡ address → IsTrue (has_next_segment net n p) → 0 < p.hop_limit
    → (hops < p.hop_limit) ↔ AlwaysExecutes net is_again ts n left p place

-- the same of a packet with a packet inside that SID n exposes
abbrev pub IsHanded : Network → ℕ → List TraceStep → ℕ → ℕ → ℕ → Place → Type 0
IsHanded net address ts n left lowered place =
    (p : Packet) → p.destination ≡ address → IsTrue (has_packet_inside net n p) → 0 < p.hop_limit
    → (lowered < p.hop_limit) ↔ AlwaysExecutes net is_hand ts n left p place

-- a leg: from a position, and the SID that was executed last there if one was, to a next SID that is middle, for packets to an address
pub record IsLeg (net : Network) (intent : Intent) (steps : List TraceStep) (address position : ℕ) (via : Option ℕ) (next : ℕ) (leg : Leg)
    : Type 0 where
  pub start : IsTrue (is_origin net intent steps position via)
  pub middle : IsTrue (is_middle net next)
  pub within : leg.to ≤ length steps
  pub taken : AtPlace (place_from net intent via) (IsTaken net address (drop position steps) next (length steps - leg.to) leg.hops)

-- a finish: to a last SID, which exposes the packet inside with no step left, for packets to an address
pub record IsFinish (net : Network) (intent : Intent) (steps : List TraceStep) (address position : ℕ) (via : Option ℕ) (next lowered : ℕ)
    : Type 0 where
  pub start : IsTrue (is_origin net intent steps position via)
  pub last : IsTrue (is_last net intent.inner next)
  pub handed : AtPlace (place_from net intent via) (IsHanded net address (drop position steps) next 0 lowered)
