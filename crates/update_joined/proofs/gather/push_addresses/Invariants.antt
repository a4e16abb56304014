use Rattle.std.proofs.Common.{◌≡◌, ◌+◌, ◌++◌, length}
use Rattle.update_joined.specs.JoinedEntries.{entries_from, address_entry}
use Rattle.update_joined.proofs.gather.push_addresses.Given as goal

-- the entries so far and those of the rest are all
abbrev pub invariant-loop-rest : goal.invariant-loop-rest
invariant-loop-rest l = record {
  pushed : l.entries.items ++ entries_from (address_entry) l.n l.rest
      ≡ l.fn.entries.items ++ entries_from (address_entry) 0 l.nodes;
  room : l.n + length l.rest ≡ length l.nodes;
}

abbrev pub decreases-loop-rest : goal.decreases-loop-rest
decreases-loop-rest l = length l.rest
