-- Updates: how the tables of a network pass from an old description to a new one while packets are on their way. The
-- network has the entries of both descriptions. Of these are hidden, at each moment, those that are still to be added and those that
-- were removed.
use Rattle.std.specs.Prelude.{ℕ, List, map}
use Rattle.net_model.specs.declared.net.EntryId.{EntryId}
use Rattle.net_model.specs.Network.{Network, hit_of_entry}
use Rattle.update_spec.specs.Joined.{joined_of}
use Rattle.update_spec.specs.Changes.{added_entries, removed_entries}
use Rattle.update_flight.specs.Planned.{hidden_after}
use Rattle.update_flight.specs.Transition.{Transition, starting}

-- ---- tables between two descriptions

-- these entries of a network are hidden, and no others
abbrev pub without : Network → List EntryId → Network
without net entries = record net { hidden = map hit_of_entry entries }

-- the tables once so many edits are done
abbrev pub tables_after : Network → List EntryId → List EntryId → ℕ → Network
tables_after joined added removed done = without joined (hidden_after added removed done)

-- ---- plans

-- the network that has the entries of both descriptions, and what is added and what is removed
pub record Plan : Type 0 where
  pub joined : Network
  pub added : List EntryId
  pub removed : List EntryId

abbrev pub plan_of : Network → Network → Plan
plan_of old new = record { joined = joined_of old new; added = added_entries old new; removed = removed_entries old new }

-- ---- updates on their way

-- the network that has the entries of both descriptions, and the edits and packets
pub record Update : Type 0 where
  pub joined : Network
  pub transition : Transition

-- no edit is done, and no packet has entered
abbrev pub starting_by : Plan → Update
starting_by plan = record { joined = plan.joined; transition = starting plan.added plan.removed }

-- the tables of an update once so many edits are done, and those of its moment

abbrev pub tables_of : Update → ℕ → Network
tables_of u = tables_after u.joined u.transition.added u.transition.removed

abbrev pub tables_now : Update → Network
tables_now u = tables_of u u.transition.done
