-- The Internet checksum (RFC 1071) of an upper layer of IPv6 (RFC 8200 section 8.1).
use Rattle.std.specs.Prelude.{ℕ, ◌+◌, ◌-◌, ◌*◌, ◌^◌, nat_lt, if◌then◌else◌, List, [], ◌∷◌, ◌++◌, length}
use Rattle.srv6_rules.specs.Packet.{address_bytes, four_bytes}

-- the greatest number of 16 bits: in one's complement the negative zero
abbrev pub all_ones : ℕ
all_ones = 2 ^ 16 - 1

-- the one's complement sum of two numbers of 16 bits: a carry out of the highest bit is added at the lowest
abbrev pub ones_add : ℕ → ℕ → ℕ
ones_add a b = if nat_lt (a + b) (2 ^ 16) then a + b else a + b - 2 ^ 16 + 1

-- the one's complement sum of bytes as words of 16 bits, the high byte of each first; an odd last byte is filled with a
-- byte of 0 after it (RFC 1071 section 1)
unfoldable pub ones_sum : List ℕ → ℕ
ones_sum [] = 0
ones_sum (high ∷ []) = high * 2 ^ 8
ones_sum (high ∷ low ∷ bytes) = ones_add (high * 2 ^ 8 + low) (ones_sum bytes)

-- what is summed in front of an upper layer that a next header names: the addresses, the upper layer's length, and that
-- next header (RFC 8200 section 8.1)
abbrev pub pseudo_header : ℕ → ℕ → ℕ → ℕ → List ℕ
pseudo_header source destination len next_header =
    address_bytes source ++ (address_bytes destination ++ (four_bytes len ++ (0 ∷ 0 ∷ 0 ∷ next_header ∷ [])))

-- the sum over the pseudo-header and the upper layer
abbrev pub upper_layer_sum : ℕ → ℕ → ℕ → List ℕ → ℕ
upper_layer_sum source destination next_header upper =
    ones_sum (pseudo_header source destination (length upper) next_header ++ upper)

-- the checksum of an upper layer whose checksum field is 0: the one's complement of the sum
unfoldable pub checksum_of : ℕ → ℕ → ℕ → List ℕ → ℕ
checksum_of source destination next_header upper = all_ones - upper_layer_sum source destination next_header upper
