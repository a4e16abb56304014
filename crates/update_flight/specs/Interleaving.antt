-- Need not be believed: helps proofs and other laws.
-- Any sequence of packets that enter, turns of packets and edits, and what it gives each packet.
use Rattle.std.specs.Prelude.{ℕ, suc, ◌≤◌, Bool, false, nat_le, nat_eq, if◌then◌else◌, List, [], ◌∷◌, ◌++◌, length}
use Rattle.net_model.specs.Network.{Network}
use Rattle.walk_rules.specs.Walk.{Stage}
use Rattle.packet_walk.specs.Flight.{InFlight, packet_in}
use Rattle.packet_walk.specs.Rest.{given_by}
use Rattle.update_flight.specs.MomentTablesTerms.{KeepsOwn}
use Rattle.net_model.specs.declared.net.EntryId.{EntryId}
use Rattle.update_flight.specs.Transition.{Transition, edit_count, edited, edits, entered, turned_in}

-- a packet enters, as one of the old description or as one of the new; the packet of a number gets a turn; or an edit is asked for
pub data Move : Type 0 where
  Enter : InFlight → InFlight → Move
  Turn : ℕ → Move
  Edit : Move

-- a transition after a move, and after moves, by the tables that there are once so many edits are done
abbrev pub moved : (ℕ → Network) → Transition → Move → Transition
moved tables t (Enter old new) = entered t old new
moved tables t (Turn number) = turned_in (tables t.done) number t
moved tables t Edit = edited t

abbrev pub moved_all : (ℕ → Network) → Transition → List Move → Transition
moved_all tables t [] = t
moved_all tables t (move ∷ more) = moved_all tables (moved tables t move) more

-- the stages that moves give the packet of a number

abbrev pub given_in : (ℕ → Network) → ℕ → Transition → Move → List Stage
given_in tables number t (Enter old new) = []
given_in tables number t (Turn other) =
    if nat_eq other number then given_by (tables t.done) (packet_in t.packets.packets number) else []
given_in tables number t Edit = []

abbrev pub given_to : (ℕ → Network) → ℕ → Transition → List Move → List Stage
given_to tables number t [] = []
given_to tables number t (move ∷ more) = given_in tables number t move ++ given_to tables number (moved tables t move) more

-- how many of the moves are turns of the packet of a number

abbrev pub is_turn_of : ℕ → Move → Bool
is_turn_of number (Enter old new) = false
is_turn_of number (Turn other) = nat_eq other number
is_turn_of number Edit = false

abbrev pub turns_of : ℕ → List Move → ℕ
turns_of number [] = 0
turns_of number (move ∷ more) = if is_turn_of number move then suc (turns_of number more) else turns_of number more

-- a packet's own description: before all edits where it entered before the switch, else after all of them
abbrev pub own_of : (ℕ → Network) → Transition → ℕ → Network
own_of tables t number = if nat_le number t.early then tables 0 else tables (edit_count t)

-- the tables keep the old description's matches until the first removal, and the new one's from the last addition on
pub record PassOver (tables : ℕ → Network) (added removed : List EntryId) : Type 0 where
  pub old : (done : ℕ) → done ≤ suc (length added) → KeepsOwn (tables 0) (tables done)
  pub new : (done : ℕ) → length added ≤ done → done ≤ length (edits added removed)
      → KeepsOwn (tables (length (edits added removed))) (tables done)
