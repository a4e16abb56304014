-- The bytes of an error that is made or not (RFC 4443 section 2.4).
use Rattle.std.specs.Prelude.{ℕ, List, [], Option, Some, None}
use Rattle.srv6_rules.specs.Packet.{Packet, spelling}

-- the spelling of the error, or no bytes
abbrev pub error_bytes : Option Packet → List ℕ
error_bytes None = []
error_bytes (Some error) = spelling error
