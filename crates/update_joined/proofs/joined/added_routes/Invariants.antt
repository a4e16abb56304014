use Rattle.std.proofs.Common.{◌≡◌, ◌++◌, not, length}
use Rattle.std.specs.List.{list_any, filter}
use Rattle.update_spec.specs.Equal.{equal_route}
use Rattle.update_joined.proofs.joined.added_routes.Given as goal

-- those so far and those of the rest are all
abbrev pub invariant-loop-rest : goal.invariant-loop-rest
invariant-loop-rest l =
    l.added.items ++ filter (λ r. not (list_any (equal_route r) l.olds)) l.rest
    ≡ filter (λ r. not (list_any (equal_route r) l.olds)) l.news

abbrev pub decreases-loop-rest : goal.decreases-loop-rest
decreases-loop-rest l = length l.rest
