use Rattle.std.proofs.Common.{◌≡◌, ℕ, ◌+◌, ◌<◌, Some, slice_get}
use Rattle.list_certificate.specs.declared.certificate_types.PotentialLine.{PotentialLine}
use Rattle.list_certificate.proofs.search.potential_from.Given as goal

abbrev pub invariant-loop-line : goal.invariant-loop-line
invariant-loop-line g l =
    (j : ℕ) (m : PotentialLine) → slice_get l.lines j ≡ Some m → j < l.first + l.line-index → m.potential.state ≡ l.state → ⊥
