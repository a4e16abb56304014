-- Need not be believed: helps proofs and other laws.
-- Terms beside those of `specs/GeneratedWords.antt`.
use Rattle.std.specs.Prelude.{ℕ, ◌-◌, ◌≤◌}

-- the sizes that are generated: from 2 to 47
abbrev pub IsSize : ℕ → Type 0
IsSize n = (2 ≤ n) × (n ≤ 47)
