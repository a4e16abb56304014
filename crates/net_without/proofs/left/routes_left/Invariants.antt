use Rattle.std.proofs.Common.{◌≡◌, ◌++◌, length}
use Rattle.net_without.specs.Without.{left_routes}
use Rattle.net_without.specs.WithoutTerms.{flag_at}
use Rattle.net_without.proofs.left.routes_left.Given as goal

-- those so far and those of the rest are all
abbrev pub invariant-loop-rest : goal.invariant-loop-rest
invariant-loop-rest l = l.left.items ++ left_routes (flag_at l.up) l.rest ≡ left_routes (flag_at l.up) l.routes

abbrev pub decreases-loop-rest : goal.decreases-loop-rest
decreases-loop-rest l = length l.rest
