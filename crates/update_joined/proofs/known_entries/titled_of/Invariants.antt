use Rattle.std.proofs.Common.{◌≡◌, ◌++◌, length}
use Rattle.std.specs.List.{filter}
use Rattle.update_joined.specs.PrefixKeys.{is_titled}
use Rattle.update_joined.proofs.known_entries.titled_of.Given as goal

-- those so far and those of the rest are all
abbrev pub invariant-loop-rest : goal.invariant-loop-rest
invariant-loop-rest l = l.titled.items ++ filter is_titled l.rest ≡ filter is_titled l.entries

abbrev pub decreases-loop-rest : goal.decreases-loop-rest
decreases-loop-rest l = length l.rest
