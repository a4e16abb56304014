use Rattle.std.proofs.Common.{◌≡◌, length}
use Rattle.update_spec.specs.Equal.{equal_lists}
use Rattle.update_joined.proofs.equal.are_equal_lists.Given as goal

-- what the rests answer is the answer
abbrev pub invariant-loop-x_rest : goal.invariant-loop-x_rest
invariant-loop-x_rest g l = equal_lists g.E.Equality.equal l.x_rest l.y_rest ≡ equal_lists g.E.Equality.equal l.xs l.ys

abbrev pub decreases-loop-x_rest : goal.decreases-loop-x_rest
decreases-loop-x_rest g l = length l.x_rest
