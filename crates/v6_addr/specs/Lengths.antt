-- Decimal numbers without leading zeros, and the lengths of prefixes, byte by byte.
use Rattle.std.specs.Prelude.{ℕ, ◌+◌, ◌-◌, ◌*◌, ◌==◌, if◌then◌else◌, Option, Some, None}
use Rattle.std.specs.Char.{digit_value, is_digit}

-- the number so far, with one more digit; none after a zero, which stands alone
unfoldable pub with_digit : Option ℕ → ℕ → Option ℕ
with_digit None digit = Some digit
with_digit (Some n) digit = if n == 0 then None else Some (n * 10 + digit)

-- the number so far, where one more byte is a decimal digit
unfoldable pub next_number : Option ℕ → ℕ → Option ℕ
next_number number byte = if is_digit byte 10 then with_digit number (digit_value byte) else None
