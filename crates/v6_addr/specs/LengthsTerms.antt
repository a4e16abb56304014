-- Need not be believed: helps proofs and other laws.
-- Terms beside those of `specs/Lengths.antt`.
use Rattle.std.specs.Prelude.{◌≡◌, ℕ, ◌+◌, ◌-◌, ◌*◌, ◌%◌, ◌^◌, ◌≤◌, ◌==◌, ◌&&◌, nat_le, if◌then◌else◌, List, Option, Some, None, option_map, option_and_then}
use Rattle.v6_addr.specs.Text.{length_text}
use Rattle.v6_addr.specs.Lengths.{next_number}

-- the greatest length up to a limit whose digits begin with those of a number
unfoldable pub furthest : ℕ → ℕ → ℕ
furthest limit n =
    if n == 0 then 0
    else (if nat_le (n * 100) limit then (if nat_le (n * 100 + 99) limit then n * 100 + 99 else limit)
    else (if nat_le (n * 10) limit then (if nat_le (n * 10 + 9) limit then n * 10 + 9 else limit) else n))

-- no bit of the address is set after some length up to the limit whose digits begin with those of the number
unfoldable pub length_goes_on : ℕ → ℕ → ℕ → Option ℕ
length_goes_on limit value n =
    if nat_le n limit && (value % 2 ^ (128 - furthest limit n) == 0) then Some n else None

-- the length's number so far with one more byte; none where no length up to the limit that fits the address goes on so
unfoldable pub length_behind : ℕ → ℕ → Option ℕ → ℕ → Option ℕ
length_behind limit value number byte = option_and_then (length_goes_on limit value) (next_number number byte)

-- the same, as a step of a walk
abbrev pub length_step : ℕ → ℕ → Option ℕ → ℕ → Option (Option ℕ)
length_step limit value number byte = option_map Some (length_behind limit value number byte)

-- the digits of a length up to a limit after which no bit of the address is set
pub record IsLengthOf (limit value : ℕ) (text : List ℕ) (len : ℕ) : Type 0 where
  pub digits : text ≡ length_text len
  pub short : len ≤ limit
  pub clear : value % 2 ^ (128 - len) ≡ 0
