-- Need not be believed: helps proofs and other laws.
-- Terms beside those of `specs/PlannedRoutes.antt`.
use Rattle.std.specs.Prelude.{◌≡◌, ℕ, ◌≤◌, Option, Some}

-- a link that is up has a metric of 32 bits, which is not 0
abbrev pub IsMetric : Option ℕ → Type 0
IsMetric metric = (m : ℕ) → metric ≡ Some m → (1 ≤ m) × (m ≤ 4294967295)
