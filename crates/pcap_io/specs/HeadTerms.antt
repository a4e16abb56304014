-- Need not be believed: helps proofs and other laws.
-- Terms beside those of `specs/Head.antt`.
use Rattle.std.specs.Prelude.{◌^◌, ◌<◌}
use Rattle.pcap_io.specs.Head.{Unread}

pub record FitsHead (u : Unread) : Type 0 where
  pub zone : u.zone < 2 ^ 32
  pub sigfigs : u.sigfigs < 2 ^ 32
  pub snaplen : u.snaplen < 2 ^ 32
  pub high : u.high < 2 ^ 16
