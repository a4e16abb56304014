-- Need not be believed: helps proofs and other laws.
-- A packet's own walk from where it stands, and what turns of all packets give each.
use Rattle.std.specs.Prelude.{◌≡◌, ℕ, suc, ◌-◌, ◌≤◌, Bool, false, if◌then◌else◌, nat_eq, List, [], ◌∷◌, ◌++◌, replicate, Option, Some, None, Result, Ok, Err, IfSome}
use Rattle.base.specs.declared.no_memory.NoMemory.{NoMemory}
use Rattle.net_model.specs.Network.{Network}
use Rattle.walk_rules.specs.declared.place.Ended.{Ended}
use Rattle.walk_rules.specs.declared.place.Place.{Place}
use Rattle.walk_rules.specs.Walk.{Stage, walk_of, choice_at, end_of}
use Rattle.walk_rules.specs.declared.limits.TheConstants.{MAX_STAGES}
use Rattle.packet_walk.specs.Flight.{InFlight, Flight, stage_in, packet_of, turned}
use Rattle.packet_walk.specs.FlightTerms.{entered}

-- where a packet goes on, if it has not ended
abbrev pub place_where : Place → Option Ended → Option Place
place_where place None = Some place
place_where place (Some end) = None

-- the rest of a packet's walk: the stages that it may take yet
abbrev pub rest_of : Network → InFlight → List Stage
rest_of net p =
    walk_of (MAX_STAGES - p.stages) net (place_where p.place p.ended) p.content (choice_at p.choices) p.decisions

-- how a packet ends: as it has, or else as the rest of its walk does

abbrev pub end_where : Ended → Option Ended → Ended
end_where end None = end
end_where end (Some ended) = ended

abbrev pub end_from : Network → InFlight → Ended
end_from net p = end_where (end_of net (rest_of net p)) p.ended

-- a packet enters, or the packet of a number gets a turn
pub data Move : Type 0 where
  Enter : InFlight → Move
  Turn : ℕ → Move

abbrev pub moved : Flight → Move → Flight
moved f (Enter p) = entered f p
moved f (Turn number) = turned number f

abbrev pub moved_all : Flight → List Move → Flight
moved_all f [] = f
moved_all f (move ∷ more) = moved_all (moved f move) more

-- the stage that a turn gives a packet, if there is one in flight

abbrev pub given_where : Network → InFlight → Option Ended → List Stage
given_where net p None = stage_in net p ∷ []
given_where net p (Some end) = []

abbrev pub given_by : Network → Option InFlight → List Stage
given_by net None = []
given_by net (Some p) = given_where net p p.ended

-- the stages that moves give the packet of a number

abbrev pub given_in : ℕ → Flight → Move → List Stage
given_in number f (Enter p) = []
given_in number f (Turn other) = if nat_eq other number then given_by f.net (packet_of f number) else []

abbrev pub given_to : ℕ → Flight → List Move → List Stage
given_to number f [] = []
given_to number f (move ∷ more) = given_in number f move ++ given_to number (moved f move) more

-- how many of the moves are turns of the packet of a number

abbrev pub is_turn_of : ℕ → Move → Bool
is_turn_of number (Enter p) = false
is_turn_of number (Turn other) = nat_eq other number

abbrev pub turns_of : ℕ → List Move → ℕ
turns_of number [] = 0
turns_of number (move ∷ more) = if is_turn_of number move then suc (turns_of number more) else turns_of number more

-- so many turns of the packet of a number, one after the other
abbrev pub turned_times : ℕ → ℕ → Flight → Flight
turned_times number n f = moved_all f (replicate n (Turn number))

-- a flight is as after some turns of the packet of a number
pub record HasTurned (number : ℕ) (old new : Flight) : Type 0 where
  pub times : ℕ
  pub few : times ≤ MAX_STAGES
  pub is : new ≡ turned_times number times old

-- a flight is so, and the packet is in flight yet
pub record HasWanted (number : ℕ) (old new : Flight) : Type 0 where
  pub before : Flight
  pub turns : HasTurned number old before
  pub going : IfSome (packet_of before number) (λ q. q.ended ≡ None)
  pub is : new ≡ before

-- what walking a packet to its end answers and leaves: all is as after so many turns that it has ended; for want of memory, the
-- turns before that stand
abbrev pub Walks : ℕ → Flight → InFlight → Result Ended NoMemory → Flight → Type 0
Walks number old p (Ok end) new =
    (end ≡ end_from old.net p) × HasTurned number old new × IfSome (packet_of new number) (λ q. q.ended ≡ Some end)
Walks number old p (Err why) new = HasWanted number old new
