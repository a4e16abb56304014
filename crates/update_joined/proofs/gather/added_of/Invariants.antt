use Rattle.std.proofs.Common.{◌≡◌, ◌++◌, length}
use Rattle.std.specs.List.{filter}
use Rattle.update_joined.specs.JoinedEntries.{is_added}
use Rattle.update_joined.proofs.gather.added_of.Given as goal

-- those so far and those of the rest are all
abbrev pub invariant-loop-rest : goal.invariant-loop-rest
invariant-loop-rest l = l.added.items ++ filter is_added l.rest ≡ filter is_added l.entries

abbrev pub decreases-loop-rest : goal.decreases-loop-rest
decreases-loop-rest l = length l.rest
