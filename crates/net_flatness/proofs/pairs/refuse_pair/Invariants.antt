use Rattle.std.proofs.Common.{◌≡◌, length}
use Rattle.net_flatness.specs.Flat.{first_pair}
use Rattle.net_flatness.proofs.pairs.refuse_pair.Given as goal

-- what the rest answers is the answer
abbrev pub invariant-loop-rest : goal.invariant-loop-rest
invariant-loop-rest g l =
    first_pair g.P.Pairs.test g.P.Pairs.why l.inners l.rest ≡ first_pair g.P.Pairs.test g.P.Pairs.why l.inners l.outers

abbrev pub decreases-loop-rest : goal.decreases-loop-rest
decreases-loop-rest g l = length l.rest
