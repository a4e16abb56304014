-- Need not be believed: helps proofs and other laws.
-- What is held at a node in a buffer: a packet, or bytes that do not read as one, and how many bytes are spare in front.
use Rattle.srv6_rules.specs.Packet as packets
use Rattle.node_stage.specs.declared.content_buf.Held.{Held}
use Rattle.node_stage.specs.declared.content_buf.Held.TheVariants.{V6, V4, Unreadable}
use Rattle.node_stage.specs.Fronted.{FrontedContent}

abbrev pub content_view : Held → FrontedContent
content_view (V6 p) = record { content = packets.V6 p.packet; front = p.front }
content_view (V4 p) = record { content = packets.V4 p.packet; front = p.front }
content_view (Unreadable bytes reason) = record { content = packets.Unreadable bytes.bytes reason; front = bytes.front }
