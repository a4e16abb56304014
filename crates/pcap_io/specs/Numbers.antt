-- Numbers in a capture: all of one byte order, that of the magic (own rule for the format that is read).
use Rattle.std.specs.Prelude.{ℕ, Bool, true, false, List}
use Rattle.byteorder.specs.Endian.{little_number, big_number, little_bytes, big_bytes}

-- the number in the first n bytes; `true` says that the lowest byte comes first
unfoldable pub number_of : Bool → ℕ → List ℕ → ℕ
number_of true n bytes = little_number n bytes
number_of false n bytes = big_number n bytes

-- the n bytes of a number
unfoldable pub number_bytes : Bool → ℕ → ℕ → List ℕ
number_bytes true n x = little_bytes n x
number_bytes false n x = big_bytes n x
