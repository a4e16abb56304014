-- IPv6 addresses and prefixes as plain numbers (RFC 4291 section 2). An address is a number below 2 ^ 128. Bit 0 is the highest
use Rattle.std.specs.Prelude.{◌≡◌, ℕ, ◌+◌, ◌-◌, ◌*◌, ◌/◌, ◌%◌, ◌^◌, ◌<◌, Bool, ◌==◌, ◌&&◌, nat_lt}

-- a prefix as a value: the address that it begins with, and its length in bits
pub record PrefixValue : Type 0 where
  pub value : ℕ
  pub len : ℕ

-- an address is in a prefix: both agree in the bits of the prefix's length
unfoldable pub Holds : PrefixValue → ℕ → Type 0
Holds p a = a / 2 ^ (128 - p.len) ≡ p.value / 2 ^ (128 - p.len)

-- `Holds` as a test
unfoldable pub holds_address : PrefixValue → ℕ → Bool
holds_address p a = a / 2 ^ (128 - p.len) == p.value / 2 ^ (128 - p.len)

-- the first prefix lies strictly inside the second: it is longer, and the second holds its address
abbrev pub IsInside : PrefixValue → PrefixValue → Type 0
IsInside inner outer = (outer.len < inner.len) × Holds outer inner.value

-- `IsInside` as a test
unfoldable pub is_inside : PrefixValue → PrefixValue → Bool
is_inside inner outer = nat_lt outer.len inner.len && holds_address outer inner.value

-- the number in the `width` bits of an address from bit `at` on
unfoldable pub field_of : ℕ → ℕ → ℕ → ℕ
field_of a at width = a / 2 ^ (128 - at - width) % 2 ^ width

-- the address with `v` in the `width` bits from bit `at` on, and its other bits as they were
unfoldable pub with_field_of : ℕ → ℕ → ℕ → ℕ → ℕ
with_field_of a at width v =
    a / 2 ^ (128 - at) * 2 ^ (128 - at) + v * 2 ^ (128 - at - width) + a % 2 ^ (128 - at - width)
