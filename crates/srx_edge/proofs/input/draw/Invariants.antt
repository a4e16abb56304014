use Rattle.std.proofs.Common.{◌-◌, ◌≡◌, ◌≤◌, vec_len}
use Rattle.srx_edge.specs.Edge.{prepend_to}
use Rattle.srx_edge.proofs.input.draw.Given as goal

-- what was taken is in `bytes`, no read failed, and none found the end
abbrev pub invariant-pieces : goal.invariant-pieces
invariant-pieces g l = record {
  within : vec_len l.bytes ≤ l.limit;
  taken : (g.S.Source.seen l.fn.source).left ≡ prepend_to l.bytes.items (g.S.Source.seen l.source).left;
  faults : (g.S.Source.seen l.source).faults ≡ (g.S.Source.seen l.fn.source).faults;
  ends : (g.S.Source.seen l.source).ends ≡ (g.S.Source.seen l.fn.source).ends;
}

abbrev pub decreases-pieces : goal.decreases-pieces
decreases-pieces g l = l.limit - vec_len l.bytes
