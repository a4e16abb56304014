use Rattle.std.proofs.Common.{◌≡◌, ◌++◌, length}
use Rattle.net_model.proofs.copies.copy_all.Given as goal

-- the copies so far and the rest are all
abbrev pub invariant-loop-rest : goal.invariant-loop-rest
invariant-loop-rest g l = l.copies.items ++ l.rest ≡ l.items

abbrev pub decreases-loop-rest : goal.decreases-loop-rest
decreases-loop-rest g l = length l.rest
