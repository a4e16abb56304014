-- Need not be believed: helps proofs and other laws.
-- Terms beside those of `specs/Fronted.antt`.
use Rattle.std.specs.Prelude.{ℕ, ◌-◌}
use Rattle.srv6_rules.specs.Packet.{Packet, V6, packet_at}
use Rattle.srv6_rules.specs.Packet4.{Packet4}
use Rattle.pkt_buf.specs.BufferView.{Buffer}
use Rattle.node_stage.specs.Fronted.{FrontedContent, fronted}

-- an IPv6 packet, and how many bytes are spare in front of it
pub record FrontedPacket : Type 0 where
  pub packet : Packet
  pub front : ℕ

-- an IPv4 packet, and how many bytes are spare in front of it
pub record FrontedPacket4 : Type 0 where
  pub packet : Packet4
  pub front : ℕ

-- a packet in a buffer
abbrev pub fronted_at : Buffer → FrontedContent
fronted_at b = fronted (V6 (packet_at b.bytes)) b.front
