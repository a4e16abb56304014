-- The edits of an accepted plan, and tables that show what its edits leave.
use Rattle.std.specs.Prelude.{ℕ, suc, ◌-◌, List, ◌++◌, length, take, drop}
use Rattle.net_model.specs.declared.net.EntryId.{EntryId}
pub use Rattle.update_spec.specs.Changes.{added_entries, lost_from, named_from, removed_entries}

-- what is hidden once so many edits are done: what is still to be added, and what was removed; the switch hides and shows nothing
abbrev pub hidden_after : List EntryId → List EntryId → ℕ → List EntryId
hidden_after added removed done = drop done added ++ take (done - suc (length added)) removed
