use Rattle.std.proofs.Common.{◌≡◌, Some, map}
use Rattle.v6_addr.specs.Text.{groups_of_texts}
use Rattle.v6_addr.proofs.groups.parse_groups.Given as goal

-- the texts so far are groups, with these numbers
abbrev pub invariant-loop-piece : goal.invariant-loop-piece
invariant-loop-piece l = groups_of_texts (map (λ piece. piece.now) l.yielded) ≡ Some l.groups.items
