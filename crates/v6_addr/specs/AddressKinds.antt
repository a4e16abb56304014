-- Kinds of IPv6 addresses, as tests (RFC 4291 section 2.4).
use Rattle.std.specs.Prelude.{ℕ, ◌/◌, ◌^◌, Bool, ◌==◌}

-- :: (RFC 4291 section 2.5.2)
unfoldable pub is_unspecified : ℕ → Bool
is_unspecified a = a == 0

-- ff00::/8 (RFC 4291 section 2.7)
unfoldable pub is_multicast : ℕ → Bool
is_multicast a = (a / 2 ^ 120) == 255
