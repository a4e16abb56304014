use Rattle.list_encoder.proofs.Relaxing.{LegsSoFar}
use Rattle.list_encoder.proofs.lowering.relax_legs.Given as goal

abbrev pub invariant-loop-to : goal.invariant-loop-to
invariant-loop-to g l =
    LegsSoFar (g.L.Legs.seen l.legs) l.cells l.k l.span.first l.span.later l.to l.initial.table l.table l.initial.edges.items
    l.edges.items l.changed
