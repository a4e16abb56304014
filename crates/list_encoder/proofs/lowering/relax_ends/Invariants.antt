use Rattle.list_encoder.proofs.Relaxing.{EndsSoFar}
use Rattle.list_encoder.proofs.lowering.relax_ends.Given as goal

abbrev pub invariant-loop-sid : goal.invariant-loop-sid
invariant-loop-sid g l = EndsSoFar (g.L.Legs.seen l.legs) l.cells l.k l.initial.table l.table l.sid-items l.sid-index l.changed
