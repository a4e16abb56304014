use Rattle.leg_table.specs.NestLegsTerms.{AreNested}
use Rattle.leg_table.proofs.nest_legs.nested_of.Given as goal

abbrev pub invariant-loop-n : goal.invariant-loop-n
invariant-loop-n l = AreNested l.net l.n l.nested.items
