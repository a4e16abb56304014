use Rattle.std.proofs.Common.{◌-◌, ◌≤◌, length}
use Rattle.list_certificate.specs.Tests.{key_of, Splits}
use Rattle.list_certificate.proofs.search.first_at.Given as goal

-- up to `low` the lines stand before the place, from `high` on they don't
abbrev pub invariant-loop-low : goal.invariant-loop-low
invariant-loop-low g l =
    Splits (g.L.Legs.seen l.legs) l.lines (key_of l.place) l.low l.high × (l.high ≤ length l.lines) × (l.low ≤ l.high)

abbrev pub decreases-loop-low : goal.decreases-loop-low
decreases-loop-low g l = l.high - l.low
