use Rattle.std.proofs.Common.{◌≡◌, length}
use Rattle.std.specs.List.{list_any}
use Rattle.update_joined.specs.PrefixKeys.{key_at, has_key}
use Rattle.update_joined.proofs.prefix_index.has_around.Given as goal

-- what the rest answers is the answer
abbrev pub invariant-loop-rest : goal.invariant-loop-rest
invariant-loop-rest l =
    list_any (λ len. has_key l.index (key_at l.a l.a.prefix.value len)) l.rest
    ≡ list_any (λ len. has_key l.index (key_at l.a l.a.prefix.value len)) l.index.lengths.items

abbrev pub decreases-loop-rest : goal.decreases-loop-rest
decreases-loop-rest l = length l.rest
