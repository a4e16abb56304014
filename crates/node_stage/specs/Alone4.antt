-- Need not be believed: helps proofs and other laws.
-- An IPv4 packet in bytes that spell it (RFC 791 section 3.1).
use Rattle.std.specs.Prelude.{◌≡◌, ℕ, List, length}
use Rattle.srv6_rules.specs.Packet4.{total_len}
use Rattle.ip6_headers.specs.Ip4Reading.{HoldsPacket4}

-- the bytes hold a packet, and nothing stands after its end
pub record HoldsAlone4 (bytes : List ℕ) : Type 0 where
  pub holds : HoldsPacket4 bytes
  pub alone : length bytes ≡ total_len bytes
