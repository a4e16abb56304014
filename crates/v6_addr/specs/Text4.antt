-- The texts of IPv4 addresses and prefixes: four decimal numbers up to 255 without leading zeros, parted by dots (RFC 6943
-- section 3.1.1, its strict form), and for a prefix a slash and its length (RFC 4632 section 3.1). The address is kept in the
-- top 32 bits. 46 is the dot, 47 the slash
use Rattle.std.specs.Prelude.{ℕ, List, [], ◌∷◌, map}
use Rattle.std.specs.List.{join_with_byte}
use Rattle.v6_addr.specs.Address.{field_of}
use Rattle.v6_addr.specs.Text.{length_text}

-- four numbers in decimal digits, parted by dots
unfoldable pub dotted_text : ℕ → ℕ → ℕ → ℕ → List ℕ
dotted_text a b c d = join_with_byte 46 (map length_text (a ∷ b ∷ c ∷ d ∷ []))

-- the text of an IPv4 address
unfoldable pub address4_text : ℕ → List ℕ
address4_text a = dotted_text (field_of a 0 8) (field_of a 8 8) (field_of a 16 8) (field_of a 24 8)
