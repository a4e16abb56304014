use Rattle.list_pack.specs.Barred.{Bars}
use Rattle.list_pack.proofs.Neighbours.{NoneOf}
use Rattle.list_pack.proofs.nest_units.some_bars.Given as goal

abbrev pub invariant-loop-n : goal.invariant-loop-n
invariant-loop-n l = NoneOf (Bars l.net l.next l.outer) l.net.sids l.n
