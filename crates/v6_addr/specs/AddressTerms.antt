-- Need not be believed: helps proofs and other laws.
-- Terms beside those of `specs/Address.antt`.
use Rattle.std.specs.Prelude.{◌≡◌, ◌-◌, ◌%◌, ◌^◌, ◌<◌, ◌≤◌}
use Rattle.v6_addr.specs.Address.{PrefixValue}

-- a length of at most 128 bits, an address, and no bit past the length set
abbrev pub IsPrefix : PrefixValue → Type 0
IsPrefix p = (p.len ≤ 128) × (p.value < 2 ^ 128) × (p.value % 2 ^ (128 - p.len) ≡ 0)
