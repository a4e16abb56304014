use Rattle.std.proofs.Common.{◌≡◌, ◌+◌, ◌++◌, length}
use Rattle.std.specs.List.{list_any}
use Rattle.update_spec.specs.Equal.{equal_route}
use Rattle.update_joined.specs.JoinedEntries.{entries_from, route_entry}
use Rattle.update_joined.proofs.gather.push_routes.Given as goal

-- the entries so far and those of the rest are all
abbrev pub invariant-loop-rest : goal.invariant-loop-rest
invariant-loop-rest l = record {
  pushed : l.entries.items ++ entries_from (route_entry (λ r. list_any (equal_route r) l.others)) l.n l.rest
      ≡ l.fn.entries.items ++ entries_from (route_entry (λ r. list_any (equal_route r) l.others)) 0 l.own;
  room : l.n + length l.rest ≡ length l.own;
}

abbrev pub decreases-loop-rest : goal.decreases-loop-rest
decreases-loop-rest l = length l.rest
