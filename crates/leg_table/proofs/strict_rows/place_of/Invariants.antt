use Rattle.std.proofs.Common.{◌≡◌, ◌++◌, take, drop}
use Rattle.leg_table.specs.PositionSids.{placed}
use Rattle.leg_table.proofs.strict_rows.place_of.Given as goal

abbrev pub invariant-loop-i : goal.invariant-loop-i
invariant-loop-i l = placed l.net l.n l.among ≡ take l.i l.among ++ placed l.net l.n (drop l.i l.among)
