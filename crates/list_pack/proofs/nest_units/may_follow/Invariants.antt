use Rattle.list_pack.specs.Barred.{BarsAfter}
use Rattle.list_pack.proofs.Neighbours.{NoneOf}
use Rattle.list_pack.proofs.nest_units.may_follow.Given as goal

abbrev pub invariant-loop-n : goal.invariant-loop-n
invariant-loop-n l = NoneOf (BarsAfter l.net l.prefix l.next) l.net.sids l.n
