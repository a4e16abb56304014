use Rattle.std.proofs.Common.{◌≡◌, length}
use Rattle.std.specs.List.{list_any}
use Rattle.net_without.specs.WithoutTerms.{flag_at}
use Rattle.net_without.proofs.up.has_up.Given as goal

-- what the rest answers is the answer
abbrev pub invariant-loop-rest : goal.invariant-loop-rest
invariant-loop-rest l = list_any (flag_at l.up) l.rest ≡ list_any (flag_at l.up) l.set

abbrev pub decreases-loop-rest : goal.decreases-loop-rest
decreases-loop-rest l = length l.rest
