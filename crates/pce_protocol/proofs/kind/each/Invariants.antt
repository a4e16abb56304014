use Rattle.pce_protocol.proofs.ItemsRead.{HasRead}
use Rattle.pce_protocol.proofs.kind.each.Given as goal

abbrev pub invariant-loop-value : goal.invariant-loop-value
invariant-loop-value g l = HasRead g.X.Kind.kind l.values l.value-index l.all.items
