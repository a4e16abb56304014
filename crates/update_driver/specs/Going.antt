-- Need not be believed: helps proofs and other laws.
-- Packets and tables on their way, as the code holds them.
use Rattle.std.specs.Prelude.{◌≡◌, ℕ, ◌+◌, ◌<◌, ◌^◌, Bool, true, false, List, [], ◌∷◌, length, slice_get, Option, Some, None, is_some}
use Rattle.net_model.specs.Network.{Network}
use Rattle.packet_walk.specs.Flight.{InFlight, packet_in, with_front}
use Rattle.packet_walk.specs.FlightTerms.{IsNumber}
use Rattle.update_plan.specs.UpdateState.{Update}
use Rattle.command_output.specs.OutputPieces.{Piece}
use Rattle.run_commands.specs.declared.enters.Entrant.{Entrant}
use Rattle.run_commands.specs.AdmissionTerms.{AllEnterIn}
use Rattle.update_driver.specs.declared.moving.Moving as code
use Rattle.update_driver.specs.declared.seat.Seat.{Seat}
use Rattle.update_driver.specs.declared.seat.Seat.TheVariants as seats
use Rattle.update_driver.specs.Events.{pieces_of}
use Rattle.update_driver.specs.Moving.{Doing, Moving, Sides, after_entering, as_in_flight, first_member, happening}
use Rattle.update_driver.specs.MovingTerms.{GoAlike, LeadsTo}

abbrev pub moving_of : code.Moving → Moving
moving_of m = record { update = m.update; seats = m.seats.items; numbers = m.numbers.items }

-- how many packets are to come

abbrev pub coming_in : Seat → ℕ
coming_in (seats.ToCome body) = 1
coming_in (seats.Entered packet) = 0
coming_in seats.Gone = 0

abbrev pub to_come : List Seat → ℕ
to_come [] = 0
to_come (seat ∷ more) = coming_in seat + to_come more

-- what is so between events: the network's names are those of the joined one, packets enter at places of it, and those that entered have
-- their numbers
pub record IsMoving (net : Network) (sides : Sides) (m : Moving) : Type 0 where
  pub nodes : m.update.joined.nodes ≡ net.nodes
  pub links : m.update.joined.links ≡ net.links
  pub within_old : AllEnterIn m.update.joined sides.old
  pub within_new : AllEnterIn m.update.joined sides.new
  pub short : length m.seats < 2 ^ 32
  pub few : length m.update.transition.packets.packets + to_come m.seats < 2 ^ 32
  pub numbered : (at packet : ℕ) → slice_get m.seats at ≡ Some (seats.Entered packet)
      → IsNumber m.update.transition.packets.packets packet

abbrev pub IsGoing : Sides → code.Moving → Type 0
IsGoing sides m = IsMoving m.net.now sides (moving_of m) × (m.choices.now ≡ first_member)

-- what doesn't change
pub record StandsOn (old new : code.Moving) : Type 0 where
  pub net : new.net.now ≡ old.net.now
  pub choices : new.choices.now ≡ old.choices.now
  pub seats : length new.seats.items ≡ length old.seats.items

abbrev pub ended_in : Option InFlight → Bool
ended_in None = true
ended_in (Some p) = is_some p.ended

-- a packet entered, whatever is spare in front of it
abbrev pub HasEntered : ℕ → Entrant → Moving → Moving → Type 0
HasEntered at comes old new = (front : ℕ) × (new ≡ after_entering at (with_front front (as_in_flight comes)) old)

-- the events lead to what the code holds after them
pub record GoesOn (sides : Sides) (events : List ℕ) (old new : code.Moving) : Type 0 where
  pub stands : StandsOn old new
  pub going : IsGoing sides new
  pub leads : LeadsTo sides events (moving_of old) (moving_of new)

-- what is to come of a packet leads there
pub record GoesOnAs (sides : Sides) (doing : Doing) (old new : code.Moving) : Type 0 where
  pub stands : StandsOn old new
  pub going : IsGoing sides new
  pub alike : GoAlike sides doing.after (moving_of new)

-- what is written of what happens by events
abbrev pub written : Sides → code.Moving → List ℕ → List Piece
written sides m events = pieces_of m.net.now (happening sides (moving_of m) events)

-- the number of the packet that has a seat among those that entered, if it did
abbrev pub entered_at : Option Seat → Option ℕ
entered_at None = None
entered_at (Some (seats.ToCome body)) = None
entered_at (Some (seats.Entered packet)) = Some packet
entered_at (Some seats.Gone) = None

-- a packet whose seat this is has no stage to come
abbrev pub has_ended : Update → Option Seat → Bool
has_ended u None = true
has_ended u (Some (seats.ToCome body)) = false
has_ended u (Some (seats.Entered packet)) = ended_in (packet_in u.transition.packets.packets packet)
has_ended u (Some seats.Gone) = true
