-- Need not be believed: helps proofs and other laws.
-- Frames that are lent from the bytes of a capture.
use Rattle.pcap_io.specs.declared.frame.Body.{Body}
use Rattle.pcap_io.specs.declared.frame.Body.TheVariants as bodies
use Rattle.pcap_io.specs.declared.lent.LentBody.{LentBody}
use Rattle.pcap_io.specs.declared.lent.LentBody.TheVariants as lent

-- what is lent, as the bytes that it is
abbrev pub body_lent : LentBody → Body
body_lent (lent.V6 packet) = bodies.V6 packet.now
body_lent (lent.V4 packet) = bodies.V4 packet.now
body_lent lent.ShortFrame = bodies.ShortFrame
body_lent lent.NotIp = bodies.NotIp
