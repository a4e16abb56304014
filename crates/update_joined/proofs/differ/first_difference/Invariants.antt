use Rattle.std.proofs.Common.{◌≡◌, ◌+◌, length}
use Rattle.update_spec.specs.Planning.{first_difference}
use Rattle.update_joined.proofs.differ.first_difference.Given as goal

-- what the rests answer is the answer
abbrev pub invariant-loop-x_rest : goal.invariant-loop-x_rest
invariant-loop-x_rest g l = record {
  same : first_difference g.E.Equality.equal l.place l.x_rest l.y_rest ≡ first_difference g.E.Equality.equal 1 l.xs l.ys;
  room : l.place + length l.x_rest ≡ 1 + length l.xs;
}

abbrev pub decreases-loop-x_rest : goal.decreases-loop-x_rest
decreases-loop-x_rest g l = length l.x_rest
