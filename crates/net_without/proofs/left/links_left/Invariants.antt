use Rattle.std.proofs.Common.{◌≡◌, ◌++◌, length}
use Rattle.std.specs.List.{filter}
use Rattle.net_without.specs.WithoutTerms.{flag_at}
use Rattle.net_without.proofs.left.links_left.Given as goal

-- those so far and those of the rest are all
abbrev pub invariant-loop-rest : goal.invariant-loop-rest
invariant-loop-rest l = l.left.items ++ filter (flag_at l.up) l.rest ≡ filter (flag_at l.up) l.set

abbrev pub decreases-loop-rest : goal.decreases-loop-rest
decreases-loop-rest l = length l.rest
