use Rattle.loose_legs.specs.LooseTable.{AreOnward}
use Rattle.loose_legs.proofs.onwards.onwards_from.Given as goal

abbrev pub invariant-loop-next : goal.invariant-loop-next
invariant-loop-next l = AreOnward l.net l.intent l.steps l.left l.place l.next l.row.items
