use Rattle.std.proofs.Common.{ℕ, ◌<◌, get_or}
use Rattle.prefix_table.proofs.index.place_of_length.Given as goal

-- the lengths so far are above the other
abbrev pub invariant-loop-i : goal.invariant-loop-i
invariant-loop-i l = (k : ℕ) → k < l.i → l.len < get_or l.lengths k 0
