use Rattle.loose_legs.specs.LooseTable.{AreTables}
use Rattle.loose_legs.proofs.onwards.tables_of.Given as goal

abbrev pub invariant-loop-n : goal.invariant-loop-n
invariant-loop-n l = AreTables l.net l.steps l.n l.tables.items
