-- Need not be believed: helps proofs and other laws.
-- The bits of numbers. `rest` is how many bits stand after the ones that are meant.
use Rattle.std.specs.Prelude.{ℕ, ◌+◌, ◌*◌, ◌/◌, ◌%◌, ◌^◌}

-- the number in `width` bits
unfoldable pub cut : ℕ → ℕ → ℕ → ℕ
cut a rest width = a / 2 ^ rest % 2 ^ width

-- the number with `v` in `width` bits, and its other bits as they were
unfoldable pub put : ℕ → ℕ → ℕ → ℕ → ℕ
put a rest width v = a / 2 ^ (rest + width) * 2 ^ (rest + width) + v * 2 ^ rest + a % 2 ^ rest
