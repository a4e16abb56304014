use Rattle.std.proofs.Common.{◌≡◌, ◌+◌, ◌*◌, ◌<◌, ℕ, false, if◌then◌else◌, length}
use Rattle.choice_graph.specs.VertexTables.{IsSound, IsSettledAt, unknown}
use Rattle.choice_graph.proofs.vertex_table.settle.Given as goal

abbrev pub invariant-rounds : goal.invariant-rounds
invariant-rounds l = record {
  sound : IsSound l.vertices l.table;
  settled : l.added ≡ false → (v : ℕ) → v < length l.vertices → IsSettledAt l.vertices l.table v;
}

abbrev pub decreases-rounds : goal.decreases-rounds
decreases-rounds l = 2 * unknown l.table + (if l.added then 1 else 0)
