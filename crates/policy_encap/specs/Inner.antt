-- Need not be believed: helps proofs and other laws.
-- The packet that is encapsulated, in bytes (RFC 8986 section 5).
use Rattle.std.specs.Prelude.{◌≡◌, ℕ, ◌+◌, List, length}
use Rattle.srv6_rules.specs.declared.family.Family.{Family}
use Rattle.srv6_rules.specs.declared.family.Family.TheVariants.{V6, V4}
use Rattle.srv6_rules.specs.Packet.{header_len, stated_len}
use Rattle.srv6_rules.specs.Packet4.{total_len}
use Rattle.ip6_headers.specs.Ip6Reading.{HoldsPacket}
use Rattle.ip6_headers.specs.Ip4Reading.{HoldsPacket4}

-- the bytes hold a packet of a family, and nothing stands after its end
abbrev pub HoldsInner : Family → List ℕ → Type 0
HoldsInner V6 bytes = HoldsPacket bytes × (length bytes ≡ header_len + stated_len bytes)
HoldsInner V4 bytes = HoldsPacket4 bytes × (length bytes ≡ total_len bytes)
