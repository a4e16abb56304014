use Rattle.list_pack.proofs.SidLoops.{GoingLeft}
use Rattle.list_pack.proofs.flavours.flavour_going_on.Given as goal

abbrev pub invariant-loop-n : goal.invariant-loop-n
invariant-loop-n l = GoingLeft l.net.sids l.prefix l.n
