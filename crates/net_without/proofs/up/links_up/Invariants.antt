use Rattle.std.proofs.Common.{◌≡◌, ◌+◌, ◌++◌, length}
use Rattle.net_without.specs.WithoutTerms.{up_from}
use Rattle.net_without.proofs.up.links_up.Given as goal

-- those so far and those of the rest are all
abbrev pub invariant-loop-rest : goal.invariant-loop-rest
invariant-loop-rest l = record {
  flags : l.up.items ++ up_from l.links l.nodes l.n l.rest ≡ up_from l.links l.nodes 0 l.all;
  room : l.n + length l.rest ≡ length l.all;
}

abbrev pub decreases-loop-rest : goal.decreases-loop-rest
decreases-loop-rest l = length l.rest
