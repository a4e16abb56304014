use Rattle.std.proofs.Common.{◌≡◌, ◌++◌, length, map}
use Rattle.std.specs.List.{filter}
use Rattle.update_joined.specs.JoinedEntries.{is_added}
use Rattle.update_joined.proofs.changes.lacked.Given as goal

-- those so far and those of the rest are all
abbrev pub invariant-loop-rest : goal.invariant-loop-rest
invariant-loop-rest l = l.ids.items ++ map (λ e. e.id) (filter is_added l.rest) ≡ map (λ e. e.id) (filter is_added l.entries)

abbrev pub decreases-loop-rest : goal.decreases-loop-rest
decreases-loop-rest l = length l.rest
