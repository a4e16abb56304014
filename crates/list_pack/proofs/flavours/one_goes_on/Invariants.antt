use Rattle.list_pack.proofs.SidLoops.{GoersLeft}
use Rattle.list_pack.proofs.flavours.one_goes_on.Given as goal

abbrev pub invariant-loop-n : goal.invariant-loop-n
invariant-loop-n l = GoersLeft l.net.sids l.prefix l.n
