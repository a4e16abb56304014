-- Need not be believed: helps proofs and other laws.
-- Terms beside those of `specs/UpdateState.antt`.
use Rattle.std.specs.Prelude.{◌≡◌, ℕ, ◌+◌, ◌<◌, ◌^◌, true, false, List, [], ◌∷◌, map, length, Result, Ok, Err}
use Rattle.net_model.specs.declared.net.EntryId.{EntryId}
use Rattle.net_model.specs.Network.{Network, hit_of_entry, is_shown}
use Rattle.net_model.specs.NetworkTerms.{CanHide, HidesThese, IsEdited}
use Rattle.packet_walk.specs.FlightTerms.{ArePlaced}
use Rattle.update_spec.specs.Joined.{joined_of}
use Rattle.update_spec.specs.Changes.{added_entries, removed_entries}
use Rattle.update_flight.specs.declared.table_edit.Edit.{Edit}
use Rattle.update_flight.specs.declared.table_edit.Edit.TheVariants.{Added, Switched, Removed, Finished}
use Rattle.update_flight.specs.Interleaving.{PassOver}
use Rattle.update_flight.specs.Planned.{hidden_after}
use Rattle.update_flight.specs.Transition.{Transition, answer_of, edited, next_edit}
use Rattle.update_plan.specs.declared.edit_fault.EditFault.{EditFault}
use Rattle.update_plan.specs.declared.edit_fault.EditFault.TheVariants as faults
use Rattle.update_plan.specs.UpdateState.{tables_after, Update}

-- ---- tables between two descriptions

-- nothing of a network is hidden
abbrev pub whole : Network → Network
whole net = record net { hidden = [] }

-- the tables between an old description and a new one, once so many edits are done
abbrev pub tables_between : Network → Network → ℕ → Network
tables_between old new = tables_after (joined_of old new) (added_entries old new) (removed_entries old new)

-- ---- plans

-- the entries are routes and SIDs of a network, each of them once
abbrev pub AreHideable : Network → List EntryId → Type 0
AreHideable net [] = Unit {0}
AreHideable net (entry ∷ entries) =
    CanHide net entry × (is_shown (map hit_of_entry entries) (hit_of_entry entry) ≡ true) × AreHideable net entries

-- what is shown of a network is what is shown without some entries
abbrev pub ShowsWithout : Network → List EntryId → Type 0
ShowsWithout net entries = HidesThese net.hidden entries

-- what is so of each plan: its network shows all but what is added, and its tables pass from one description to the other
pub record IsPlan (net : Network) (added removed : List EntryId) : Type 0 where
  pub shows : ShowsWithout net added
  pub added_there : AreHideable net added
  pub removed_there : AreHideable net removed
  pub few : length added + length removed + 1 < 2 ^ 32
  pub pass : PassOver (tables_after (whole net) added removed) added removed

-- the tables of an update once so many edits are done, and those of its moment

-- what is so of each update: its network shows all but what is still to be added and what was removed
pub record IsUpdate (net : Network) (t : Transition) : Type 0 where
  pub shows : ShowsWithout net (hidden_after t.added t.removed t.done)
  pub added_there : AreHideable net t.added
  pub removed_there : AreHideable net t.removed
  pub placed : ArePlaced net t.packets.packets
  pub pass : PassOver (tables_after (whole net) t.added t.removed) t.added t.removed

-- ---- edits

-- the tables after an edit: an entry that is added is shown, one that is removed isn't, and all else is as before
abbrev pub IsChanged : Edit → Network → Network → Type 0
IsChanged (Added entry) old new = IsEdited old new (hit_of_entry entry) true
IsChanged Switched old new = new ≡ old
IsChanged (Removed entry) old new = IsEdited old new (hit_of_entry entry) false
IsChanged Finished old new = new ≡ old

-- an entry that an edit adds is hidden, and one that it removes is shown
abbrev pub CanChange : Edit → Network → Type 0
CanChange (Added entry) net = CanHide net entry × (is_shown net.hidden (hit_of_entry entry) ≡ false)
CanChange Switched net = Unit {0}
CanChange (Removed entry) net = CanHide net entry × (is_shown net.hidden (hit_of_entry entry) ≡ true)
CanChange Finished net = Unit {0}

abbrev pub IsAddition : Edit → Type 0
IsAddition (Added entry) = Unit {0}
IsAddition Switched = ⊥
IsAddition (Removed entry) = ⊥
IsAddition Finished = ⊥

-- what an edit answers and leaves; want of memory comes at an addition alone
abbrev pub EditsAs : Update → Result Edit EditFault → Update → Type 0
EditsAs old (Ok edit) new = (answer_of old.transition ≡ Ok edit) × (new ≡ record old { transition = edited old.transition })
EditsAs old (Err (faults.Busy packet)) new = (answer_of old.transition ≡ Err (record { packet = packet })) × (new ≡ old)
EditsAs old (Err faults.NoMemory) new = IsAddition (next_edit old.transition) × (new ≡ old)
