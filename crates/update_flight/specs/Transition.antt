-- The edits of an update, and packets in flight between them. The edits come in one order: each addition, the switch, each
-- removal. A packet that enters before the switch is one of the old description, and one that enters after it is one of the new. A
-- removal waits until all packets from before the switch have ended.
use Rattle.std.specs.Prelude.{ℕ, suc, ◌+◌, Bool, nat_le, if◌then◌else◌, is_some, List, [], ◌∷◌, ◌++◌, length, map, take, slice_get, Option, Some, None, Result, Ok, Err}
use Rattle.net_model.specs.Network.{Network}
use Rattle.packet_walk.specs.Flight.{InFlight, Packets, Flight, turned, within}
use Rattle.net_model.specs.declared.net.EntryId.{EntryId}
use Rattle.update_flight.specs.declared.table_edit.Edit.{Edit}
use Rattle.update_flight.specs.declared.table_edit.Edit.TheVariants.{Added, Switched, Removed, Finished}
use Rattle.update_flight.specs.declared.table_edit.Busy.{Busy}

-- the entries that are added and those that are removed, how many edits are done, how many packets entered before the switch, and the
-- packets
pub record Transition : Type 0 where
  pub added : List EntryId
  pub removed : List EntryId
  pub done : ℕ
  pub early : ℕ
  pub packets : Packets

-- no edit is done, and no packet has entered
abbrev pub starting : List EntryId → List EntryId → Transition
starting added removed =
    record { added = added; removed = removed; done = 0; early = 0; packets = record { error = []; packets = [] } }

-- all edits in their order
abbrev pub edits : List EntryId → List EntryId → List Edit
edits added removed = map Added added ++ Switched ∷ map Removed removed

abbrev pub edit_count : Transition → ℕ
edit_count t = length (edits t.added t.removed)

-- the next edit; none is left after the last

abbrev pub or_finished : Option Edit → Edit
or_finished None = Finished
or_finished (Some edit) = edit

abbrev pub next_edit : Transition → Edit
next_edit t = or_finished (slice_get (edits t.added t.removed) t.done)

-- the switch is still to come
abbrev pub is_before_switch : Transition → Bool
is_before_switch t = nat_le t.done (length t.added)

-- the number of the first packet in flight, of packets that are numbered from n on
abbrev pub first_going : ℕ → List InFlight → Option ℕ
first_going n [] = None
first_going n (p ∷ more) = if is_some p.ended then first_going (n + 1) more else Some n

-- the first packet in flight of those that entered before the switch
abbrev pub first_early : Transition → Option ℕ
first_early t = first_going 1 (take t.early t.packets.packets)

-- what an edit answers, by the first packet in flight from before the switch

abbrev pub removed_or_busy : EntryId → Option ℕ → Result Edit Busy
removed_or_busy entry None = Ok (Removed entry)
removed_or_busy entry (Some packet) = Err (record { packet = packet })

abbrev pub answer_to : Option ℕ → Edit → Result Edit Busy
answer_to going (Added entry) = Ok (Added entry)
answer_to going Switched = Ok Switched
answer_to going (Removed entry) = removed_or_busy entry going
answer_to going Finished = Ok Finished

abbrev pub answer_of : Transition → Result Edit Busy
answer_of t = answer_to (first_early t) (next_edit t)

-- how many edits an edit is

abbrev pub steps : Edit → ℕ
steps (Added entry) = 1
steps Switched = 1
steps (Removed entry) = 1
steps Finished = 0

-- how many edits are done after an answer
abbrev pub done_after : ℕ → Result Edit Busy → ℕ
done_after done (Ok edit) = done + steps edit
done_after done (Err busy) = done

-- after an edit; no packet is changed
abbrev pub edited : Transition → Transition
edited t = record t { done = done_after t.done (answer_of t) }

-- a packet enters as one of the old description, or as one of the new
abbrev pub entered : Transition → InFlight → InFlight → Transition
entered t old new = record t {
  early = if is_before_switch t then suc t.early else t.early;
  packets = record t.packets { packets = t.packets.packets ++ (if is_before_switch t then old else new) ∷ [] };
}

-- after a turn of the packet of a number by the tables of a network

abbrev pub packets_of : Flight → Packets
packets_of f = record { error = f.error; packets = f.packets }

abbrev pub turned_in : Network → ℕ → Transition → Transition
turned_in net number t = record t { packets = packets_of (turned number (within net t.packets)) }
