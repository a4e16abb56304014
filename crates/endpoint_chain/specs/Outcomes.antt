-- Need not be believed: helps proofs and other laws.
-- What comes of a packet at a SID, in its bytes (RFC 8986 section 4).
use Rattle.std.specs.Prelude.{◌≡◌, ℕ, ◌+◌, List, length}
use Rattle.srv6_rules.specs.Packet.{Packet, header_len, stated_len}
use Rattle.srv6_rules.specs.PacketTerms.{Spells}
use Rattle.srv6_rules.specs.Areas.{Fault}
use Rattle.srv6_rules.specs.Endpoint.{Endpoint, Onward, Exposed, Delivered, Refused}
use Rattle.ip6_headers.specs.Ip6Reading.{HoldsPacket}
use Rattle.endpoint_chain.specs.declared.outcome.EndOutcome.{EndOutcome}
use Rattle.endpoint_chain.specs.declared.outcome.EndOutcome.TheVariants.{On, Hand, Local, Drop}

-- the bytes hold a packet, and nothing stands after its end
pub record HoldsAlone (bytes : List ℕ) : Type 0 where
  pub holds : HoldsPacket bytes
  pub alone : length bytes ≡ header_len + stated_len bytes

-- the bytes spell the packet of an outcome
pub record Leaves (outcome : Endpoint) (by : Packet → Endpoint) (bytes : List ℕ) : Type 0 where
  pub packet : Packet
  pub is : outcome ≡ by packet
  pub spelled : Spells bytes packet

-- what came of the packet in the old bytes is this, and the new bytes are its packet's, those of what is exposed, or the old ones
-- where it is dropped
abbrev pub ComesOf : Endpoint → List ℕ → List ℕ → EndOutcome → Type 0
ComesOf e old new On = Leaves e Onward new
ComesOf e old new (Hand family) = e ≡ Exposed family new
ComesOf e old new Local = Leaves e Delivered new
ComesOf e old new (Drop reason at) = (e ≡ Refused reason at) × (new ≡ old)

abbrev pub dropped_for : Fault → EndOutcome
dropped_for fault = Drop fault.reason fault.at
