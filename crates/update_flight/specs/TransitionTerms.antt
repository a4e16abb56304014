-- Need not be believed: helps proofs and other laws.
-- Terms beside those of `specs/Transition.antt`.
use Rattle.std.specs.Prelude.{◌≡◌, ℕ, suc, ◌+◌, ◌^◌, ◌<◌, ◌≤◌, List, length, Some, IsSome, Result, Ok, Err}
use Rattle.base.specs.declared.no_memory.NoMemory.{NoMemory}
use Rattle.packet_walk.specs.Flight.{InFlight, Packets, packet_in}
use Rattle.net_model.specs.declared.net.EntryId.{EntryId}
use Rattle.update_flight.specs.Transition.{Transition, edits, edit_count, entered}

-- after a turn of the packet of a number by the tables of a network

-- what entering answers and leaves
abbrev pub EntersAs : Transition → InFlight → InFlight → Result ℕ NoMemory → Transition → Type 0
EntersAs t old new (Ok number) after = (number ≡ length t.packets.packets + 1) × (after ≡ entered t old new)
EntersAs t old new (Err why) after = after ≡ t

-- the first packets, so many, have ended
abbrev pub HaveEnded : ℕ → List InFlight → Type 0
HaveEnded count packets = (number : ℕ) (p : InFlight) → number ≤ count → packet_in packets number ≡ Some p → IsSome p.ended

-- no more edits are done than there are; before the switch all packets are early ones, and after the first removal all those have
-- ended
pub record IsTransition (t : Transition) : Type 0 where
  pub edits : t.done ≤ edit_count t
  pub early : t.early ≤ length t.packets.packets
  pub before : t.done ≤ length t.added → t.early ≡ length t.packets.packets
  pub after : suc (length t.added) < t.done → HaveEnded t.early t.packets.packets

-- a transition by what is held of it
abbrev pub transition_value : List EntryId → List EntryId → ℕ → ℕ → Packets → Transition
transition_value added removed done early packets =
    record { added = added; removed = removed; done = done; early = early; packets = packets }

-- the first packets, so many, were passed, since they have ended; and numbers can count all edits and all packets
pub record IsPassed (passed : ℕ) (t : Transition) : Type 0 where
  pub is : IsTransition t
  pub few : edit_count t < 2 ^ 32
  pub numbers : length t.packets.packets < 2 ^ 32
  pub most : passed ≤ t.early
  pub ended : HaveEnded passed t.packets.packets
