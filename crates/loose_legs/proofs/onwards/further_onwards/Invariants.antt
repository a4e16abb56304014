use Rattle.loose_legs.specs.LooseTable.{AreFurther}
use Rattle.loose_legs.proofs.onwards.further_onwards.Given as goal

abbrev pub invariant-loop-position : goal.invariant-loop-position
invariant-loop-position l = AreFurther l.net l.intent l.steps l.position l.further.items
