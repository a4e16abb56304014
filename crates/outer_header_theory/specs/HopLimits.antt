-- Need not be believed: helps proofs and other laws.
-- What comes at a SID of packets that differ in their hop limit alone (RFC 8200 section 3, RFC 8986 section 4.1, RFC 8754 section
-- 4.3.1.1).
use Rattle.std.specs.Prelude.{◌≡◌, ℕ, ◌-◌, nat_le, if◌then◌else◌, List}
use Rattle.srv6_rules.specs.declared.family.Family.{Family}
use Rattle.srv6_rules.specs.declared.reason.Reason.TheVariants as reasons
use Rattle.srv6_rules.specs.Packet.{Packet}
use Rattle.srv6_rules.specs.Endpoint.{Endpoint, Onward, Exposed, Delivered, Refused}

-- a packet with a hop limit
abbrev pub at_hop : ℕ → Packet → Packet
at_hop hop p = record p { hop_limit = hop }

-- what comes of a packet, whatever its hop limit is: it goes on as another one, the packet inside is exposed, or it ends there
pub data Course : Type 0 where
  GoesOn : Packet → Course
  IsShown : Family → List ℕ → Course
  EndsThere : Course

-- it is handed to the upper layer or dropped
abbrev pub IsEnd : Endpoint → Type 0
IsEnd (Onward q) = ⊥
IsEnd (Exposed family bytes) = ⊥
IsEnd (Delivered q) = Unit {0}
IsEnd (Refused reason at) = Unit {0}

-- so it is at a hop limit: what goes on does so with one less, from above 1, and is refused else
abbrev pub Takes : Course → ℕ → Endpoint → Type 0
Takes (GoesOn q) hop e = e ≡ (if nat_le hop 1 then Refused reasons.HopLimit 0 else Onward (at_hop (hop - 1) q))
Takes (IsShown family bytes) hop e = e ≡ Exposed family bytes
Takes EndsThere hop e = IsEnd e
