-- Need not be believed: helps proofs and other laws.
-- What an edit of a packet's header holds (RFC 8200 section 3).
use Rattle.std.specs.Prelude.{List, ℕ}
use Rattle.std.specs.Borrow.{GName}
use Rattle.ip6_headers.specs.declared.header_edit.Ip6Edit.{Ip6Edit}

-- the bytes as they are
abbrev pub edited : Ip6Edit → List ℕ
edited e = e.bytes.now

-- the reference that was handed in: what is edited is written there
abbrev pub lent_as : Ip6Edit → GName
lent_as e = e.bytes.ghost_name
