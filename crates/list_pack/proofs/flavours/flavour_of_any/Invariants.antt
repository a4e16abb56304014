use Rattle.list_pack.proofs.SidLoops.{AnyLeft}
use Rattle.list_pack.proofs.flavours.flavour_of_any.Given as goal

abbrev pub invariant-loop-n : goal.invariant-loop-n
invariant-loop-n l = AnyLeft l.net.sids l.prefix l.n
