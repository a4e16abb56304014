use Rattle.leg_table.specs.TransitTables.{stand}
use Rattle.leg_table.proofs.TransitTableLemmas.{AreWaysBelow}
use Rattle.leg_table.proofs.transit_table.ways_of.Given as goal

abbrev pub invariant-loop-n : goal.invariant-loop-n
invariant-loop-n l = AreWaysBelow l.net l.steps (stand l.node l.lower) l.n l.ways.items
