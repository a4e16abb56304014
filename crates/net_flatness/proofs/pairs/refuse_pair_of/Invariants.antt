use Rattle.std.proofs.Common.{◌≡◌, find, length}
use Rattle.net_flatness.proofs.pairs.refuse_pair_of.Given as goal

-- what the rest answers is the answer
abbrev pub invariant-loop-rest : goal.invariant-loop-rest
invariant-loop-rest g l = find (g.P.Pairs.test l.outer) l.rest ≡ find (g.P.Pairs.test l.outer) l.inners

abbrev pub decreases-loop-rest : goal.decreases-loop-rest
decreases-loop-rest g l = length l.rest
