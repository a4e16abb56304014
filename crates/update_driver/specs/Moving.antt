-- Packets of frames and the tables that they go by, which pass from an old description to a new one; and what an event does.
use Rattle.std.specs.Prelude.{ℕ, zero, suc, ◌+◌, if◌then◌else◌, List, [], ◌∷◌, ◌++◌, length, slice_get, slice_set, Option, Some, None, Result, Ok, Err}
use Rattle.pcap_io.specs.declared.frame.Body.{Body}
use Rattle.walk_rules.specs.declared.place.Ended.{Ended}
use Rattle.walk_rules.specs.Walk.{Stage}
use Rattle.node_stage.specs.Fronted.{fronted}
use Rattle.packet_walk.specs.Flight.{InFlight, entering, packet_in, stage_in, staged}
use Rattle.packet_walk.specs.Schedule.{frame_of}
use Rattle.update_flight.specs.declared.table_edit.Busy.{Busy}
use Rattle.update_flight.specs.declared.table_edit.Edit.{Edit}
use Rattle.update_flight.specs.Transition.{answer_of, edited, entered, is_before_switch, turned_in}
use Rattle.update_plan.specs.UpdateState.{Update, tables_now}
use Rattle.run_commands.specs.declared.enters.Entrant.{Entrant}
use Rattle.run_commands.specs.declared.enters.EarlyEnd.{EarlyEnd}
use Rattle.run_commands.specs.Admission.{Admission, EndsEarly, Admitted}
use Rattle.update_driver.specs.declared.seat.Seat.{Seat}
use Rattle.update_driver.specs.declared.seat.Seat.TheVariants as seats

-- how packets enter with what the old description makes of them, and how with what the new one makes
pub record Sides : Type 0 where
  pub old : Body → Admission
  pub new : Body → Admission

abbrev pub sides_by : (Body → Admission) → (Body → Admission) → Sides
sides_by old new = record { old = old; new = new }

-- the update, the seats of the packets of all frames, in the order of the frames, and of each packet that entered, in the order in which
-- they did, the number of its frame, from 1
pub record Moving : Type 0 where
  pub update : Update
  pub seats : List Seat
  pub numbers : List ℕ

-- what happens
pub data Happening : Type 0 where
  Staged : ℕ → Stage → Option Ended → Happening  -- the packet of a frame's number takes a stage, and ends so, if it does
  Stayed : ℕ → EarlyEnd → Happening  -- it stays where it was to enter
  Edited : Edit → Happening  -- an edit is done
  Waits : ℕ → Happening  -- a removal waits for it

-- what an event does: what happens, and what is there after it
pub record Doing : Type 0 where
  pub happens : List Happening
  pub after : Moving

abbrev pub nothing : Moving → Doing
nothing m = record { happens = []; after = m }

abbrev pub with_update : Moving → Update → Moving
with_update m update = record m { update = update }

-- ---- an edit is asked for

-- which packet a removal waits for is told by the number of its frame
abbrev pub happenings_of_edit : List ℕ → Result Edit Busy → List Happening
happenings_of_edit numbers (Ok edit) = Edited edit ∷ []
happenings_of_edit numbers (Err busy) = Waits (frame_of numbers busy.packet) ∷ []

abbrev pub editing : Moving → Doing
editing m = record {
  happens = happenings_of_edit m.numbers (answer_of m.update.transition);
  after = with_update m (record m.update { transition = edited m.update.transition });
}

-- ---- a packet that entered takes a stage by the tables of the moment, unless it has ended

abbrev pub happenings_where : ℕ → Update → InFlight → Option Ended → List Happening
happenings_where number u p None = Staged number (stage_in (tables_now u) p) (staged (tables_now u) p).ended ∷ []
happenings_where number u p (Some end) = []

abbrev pub happenings_of_turn : ℕ → Update → Option InFlight → List Happening
happenings_of_turn number u None = []
happenings_of_turn number u (Some p) = happenings_where number u p p.ended

abbrev pub after_turn : ℕ → Moving → Moving
after_turn packet m =
    with_update m (record m.update { transition = turned_in (tables_now m.update) packet m.update.transition })

-- the packet of a frame's number is the one that entered with another number
abbrev pub turning : ℕ → ℕ → Moving → Doing
turning number packet m = record {
  happens = happenings_of_turn number m.update (packet_in m.update.transition.packets.packets packet);
  after = after_turn packet m;
}

-- ---- a packet enters

-- how packets enter at the moment
abbrev pub side_of : Sides → Update → Body → Admission
side_of sides u = if is_before_switch u.transition then sides.old else sides.new

-- all decisions take the first member
abbrev pub first_member : List ℕ
first_member = 0 ∷ []

abbrev pub as_in_flight : Entrant → InFlight
as_in_flight comes = entering (fronted comes.content 0) comes.place first_member

-- how many entered
abbrev pub entered_count : Moving → ℕ
entered_count m = length m.update.transition.packets.packets

-- the packet that has the seat at a place enters, as one of the description that packets enter by at the moment
abbrev pub after_entering : ℕ → InFlight → Moving → Moving
after_entering at p m = record {
  update = record m.update { transition = entered m.update.transition p p };
  seats = slice_set m.seats at (seats.Entered (entered_count m + 1));
  numbers = m.numbers ++ suc at ∷ [];
}

abbrev pub after_staying : ℕ → Moving → Moving
after_staying at m = record m { seats = slice_set m.seats at seats.Gone }

-- it enters and takes its first stage, or stays where what the description makes of it is too big
abbrev pub coming_by : ℕ → Moving → Admission → Doing
coming_by at m (EndsEarly stays) = record { happens = Stayed (suc at) stays ∷ []; after = after_staying at m }
coming_by at m (Admitted comes) = turning (suc at) (entered_count m + 1) (after_entering at (as_in_flight comes) m)

-- ---- events

abbrev pub stepping : Sides → ℕ → Moving → Option Seat → Doing
stepping sides at m None = nothing m
stepping sides at m (Some (seats.ToCome body)) = coming_by at m (side_of sides m.update body)
stepping sides at m (Some (seats.Entered packet)) = turning (suc at) packet m
stepping sides at m (Some seats.Gone) = nothing m

-- 0 is one edit, and another number a stage of the packet of that frame, which enters first where it hasn't; a number that names no packet
-- in flight or to come does nothing
abbrev pub doing : Sides → ℕ → Moving → Doing
doing sides zero m = editing m
doing sides (suc at) m = stepping sides at m (slice_get m.seats at)

-- what happens by events, one after the other

abbrev pub happening : Sides → Moving → List ℕ → List Happening
happening sides m [] = []
happening sides m (event ∷ events) = (doing sides event m).happens ++ happening sides (doing sides event m).after events
