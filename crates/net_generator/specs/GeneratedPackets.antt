-- The packets that are sent through a generated network
use Rattle.std.specs.Prelude.{ℕ, ◌+◌, ◌%◌, replicate}
use Rattle.srv6_rules.specs.Packet.{Packet}

-- packet k: from 2001:db8:1::k to 2001:db8:2::1, with k % 64 bytes of zeros after its header and no upper layer (next header
-- 59, RFC 8200 section 4.7)
unfoldable pub generated_packet : ℕ → Packet
generated_packet k = record {
  traffic_class = 0;
  flow_label = 0;
  next_header = 59;
  hop_limit = 64;
  source = 0x2001_0db8_0001_0000_0000_0000_0000_0000 + k;
  destination = 0x2001_0db8_0002_0000_0000_0000_0000_0001;
  payload = replicate (k % 64) 0;
}
