use Rattle.std.proofs.Common.{◌≡◌, ◌+◌, ◌++◌, length}
use Rattle.net_model.specs.NetworkTerms.{network_of}
use Rattle.update_spec.specs.Joined.{is_new_sid}
use Rattle.update_joined.specs.JoinedEntries.{entries_from, sid_entry}
use Rattle.update_joined.proofs.gather.push_sids.Given as goal

-- the entries so far and those of the rest are all
abbrev pub invariant-loop-rest : goal.invariant-loop-rest
invariant-loop-rest l = record {
  pushed : l.entries.items ++ entries_from (sid_entry (is_new_sid (network_of l.own) (network_of l.other))) l.n l.rest
      ≡ l.fn.entries.items ++ entries_from (sid_entry (is_new_sid (network_of l.own) (network_of l.other))) 0 (network_of l.own).sids;
  room : l.n + length l.rest ≡ length (network_of l.own).sids;
}

abbrev pub decreases-loop-rest : goal.decreases-loop-rest
decreases-loop-rest l = length l.rest
