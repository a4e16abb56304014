use Rattle.std.proofs.Common.{◌≡◌, ◌++◌, take, drop}
use Rattle.loose_spec.specs.LooseLegsValue.{placed}
use Rattle.loose_legs.proofs.loose_rows.place_of.Given as goal

abbrev pub invariant-loop-i : goal.invariant-loop-i
invariant-loop-i l = placed l.net l.n l.among ≡ take l.i l.among ++ placed l.net l.n (drop l.i l.among)
