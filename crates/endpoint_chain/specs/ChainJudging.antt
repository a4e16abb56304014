-- Need not be believed: helps proofs and other laws.
-- What is judged of a header at a node, and of a packet at the node's own address (RFC 8200 section 4).
use Rattle.std.specs.Prelude.{◌≡◌, Option, Some, None}
use Rattle.srv6_rules.specs.Packet.{Packet}
use Rattle.srv6_rules.specs.Endpoint.{Endpoint, Delivered, Refused, unless_fault}
use Rattle.ip6_headers.specs.declared.areas.Fault.{Fault}
use Rattle.ip6_headers.specs.Items.{fault_in}

-- the fault of a packet at an address; none where it is delivered
abbrev pub IsFaultOf : Packet → Endpoint → Option Fault → Type 0
IsFaultOf p e None = e ≡ Delivered p
IsFaultOf p e (Some fault) = e ≡ Refused fault.reason fault.at

-- the fault of a header, whatever came of those after it; none where it is passed over
abbrev pub IsHeaderFault : (Endpoint → Endpoint) → Option Fault → Type 0
IsHeaderFault treat fault = (rest : Endpoint) → treat rest ≡ unless_fault (fault_in fault) rest
