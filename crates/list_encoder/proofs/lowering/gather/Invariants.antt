use Rattle.list_encoder.proofs.Relaxing.{GatheredSoFar}
use Rattle.list_encoder.proofs.lowering.gather.Given as goal

abbrev pub invariant-loop-k : goal.invariant-loop-k
invariant-loop-k g l = GatheredSoFar (g.L.Legs.seen l.legs) l.cells l.span.first l.span.later l.k l.initial.table l.table l.edges.items
