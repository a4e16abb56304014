-- Need not be believed: helps proofs and other laws.
-- Terms beside those of `specs/Flight.antt`.
use Rattle.std.specs.Prelude.{◌≡◌, ℕ, ◌+◌, ◌<◌, ◌≤◌, List, [], ◌∷◌, ◌++◌, length, slice_get, Option, Some, None, Result, Ok, Err, IsSome}
use Rattle.base.specs.declared.no_memory.NoMemory.{NoMemory}
use Rattle.srv6_rules.specs.PacketTerms.{IsContent}
use Rattle.icmp6_errors.specs.Answer.{error_bytes}
use Rattle.net_model.specs.Network.{Network}
use Rattle.node_stage.specs.Fronted.{FrontedContent, most_front}
use Rattle.walk_rules.specs.declared.place.Ended.{Ended}
use Rattle.walk_rules.specs.declared.place.Outcome.{Outcome}
use Rattle.walk_rules.specs.declared.place.Place.{Place}
use Rattle.walk_rules.specs.Relation.{IsPlace}
use Rattle.walk_rules.specs.Walk.{Stage, decisions}
use Rattle.packet_walk.specs.declared.event.Event.{Event}
use Rattle.walk_rules.specs.declared.limits.TheConstants.{MAX_STAGES}
use Rattle.packet_walk.specs.Flight.{InFlight, Flight, with_room, stage_in, staged, with_packet, after_stage}

-- a flight after room was made in front of the packet of a number; for one that has ended none is made

abbrev pub reserved_where : ℕ → Flight → InFlight → Option Ended → Flight
reserved_where number f p None = record { net = f.net; error = f.error; packets = with_packet f.packets number (with_room p) }
reserved_where number f p (Some end) = f

-- what is spare in front of a packet in flight; nothing of one that has ended

abbrev pub room_where : ℕ → Option Ended → ℕ
room_where front None = front
room_where front (Some end) = 0

-- a flight that another packet entered
abbrev pub entered : Flight → InFlight → Flight
entered f p = record { net = f.net; error = f.error; packets = f.packets ++ p ∷ [] }

-- the number is one that was given
pub record IsNumber (packets : List InFlight) (number : ℕ) : Type 0 where
  pub first : 1 ≤ number
  pub last : number ≤ length packets

abbrev pub IsGiven : Flight → ℕ → Type 0
IsGiven f number = IsNumber f.packets number

-- the event of a stage of the packet of a number
abbrev pub event_of : ℕ → Stage → Event
event_of number s = record { packet = number; node = s.place.node; outcome = s.gave.outcome }

-- what entering answers and leaves
abbrev pub Enters : Flight → InFlight → Result ℕ NoMemory → Flight → Type 0
Enters old p (Ok number) new = (number ≡ length old.packets + 1) × (new ≡ entered old p)
Enters old p (Err why) new = new ≡ old

-- what the next stage of the packet of a number answers and leaves
abbrev pub StagesIn : ℕ → Flight → InFlight → Outcome → Flight → Type 0
StagesIn number old p outcome new = (outcome ≡ (stage_in old.net p).gave.outcome) × (new ≡ after_stage number old p)

-- what a turn of a packet answers and leaves
abbrev pub Turns : ℕ → Flight → InFlight → Result (Option Event) NoMemory → Flight → Type 0
Turns number old p (Ok None) new = IsSome p.ended × (new ≡ old)
Turns number old p (Ok (Some event)) new =
    (p.ended ≡ None) × (event ≡ event_of number (stage_in old.net p)) × (new ≡ after_stage number old p)
Turns number old p (Err why) new = (p.ended ≡ None) × (new ≡ old) × (p.front < most_front)

-- what making room in front of a packet answers and leaves
abbrev pub Reserves : ℕ → Flight → InFlight → Result (Unit {0}) NoMemory → Flight → Type 0
Reserves number old p (Ok none) new = new ≡ reserved_where number old p p.ended
Reserves number old p (Err why) new = (p.ended ≡ None) × (new ≡ old) × (p.front < most_front)

-- what is so of a packet's counts: it has choices, at most as many decisions as stages, and no more stages than it may have; one
-- that has not ended has stages left
pub record IsCounted (p : InFlight) : Type 0 where
  pub choices : 0 < length p.choices
  pub decisions : p.decisions ≤ p.stages
  pub stages : p.stages ≤ MAX_STAGES
  pub left : p.ended ≡ None → p.stages < MAX_STAGES

-- what is so of each packet in flight in a network
pub record IsInFlight (net : Network) (p : InFlight) : Type 0 where
  pub place : IsPlace net p.place
  pub content : IsContent p.content
  pub counted : IsCounted p

-- the packets stand at places of the network
abbrev pub ArePlaced : Network → List InFlight → Type 0
ArePlaced net packets = (before : ℕ) (p : InFlight) → slice_get packets before ≡ Some p → IsPlace net p.place

-- a packet by what is held of it
abbrev pub packet_value : FrontedContent → Place → List ℕ → ℕ → ℕ → Option Ended → InFlight
packet_value c place choices decisions stages ended =
    record { content = c.content; front = c.front; place = place; choices = choices; decisions = decisions; stages = stages; ended = ended }

-- what the next stage of a packet answers and leaves, of the packet and in the slot
abbrev pub StagesAs : Network → InFlight → Outcome → InFlight → List ℕ → Type 0
StagesAs net old outcome new slot =
    let s = stage_in net old in (outcome ≡ s.gave.outcome) × (new ≡ staged net old) × (slot ≡ error_bytes s.gave.error)

-- what making room in front of a packet that has not ended answers and leaves
abbrev pub ReservesAs : InFlight → Result (Unit {0}) NoMemory → InFlight → Type 0
ReservesAs old (Ok none) new = new ≡ with_room old
ReservesAs old (Err why) new = (new ≡ old) × (old.front < most_front)
