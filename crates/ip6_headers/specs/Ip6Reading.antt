-- Need not be believed: helps proofs and other laws.
-- What reading says of bytes (RFC 8200 section 3).
use Rattle.std.specs.Prelude.{◌≡◌, ℕ, ◌+◌, ◌<◌, ◌^◌, ◌≤◌, List, length, All, Option, Some, None, Result, Ok, Err}
use Rattle.srv6_rules.specs.declared.reason.Reason.TheVariants as reasons
use Rattle.srv6_rules.specs.Packet.{Packet, Content, V6, Unreadable, header_len, content_of, packet_at, stated_len}
use Rattle.ip6_headers.specs.declared.faults.ReadFault.{ReadFault}
use Rattle.ip6_headers.specs.declared.faults.ReadFault.TheVariants.{Truncated, BadVersion}

-- the bytes hold the packet that their header states
pub record HoldsPacket (bytes : List ℕ) : Type 0 where
  pub reads : content_of bytes ≡ V6 (packet_at bytes)
  pub whole : header_len + stated_len bytes ≤ length bytes
  pub in_range : All (λ b. b < 2 ^ 8) bytes

-- bytes that do not read, and why
abbrev pub unreadable : List ℕ → ReadFault → Content
unreadable bytes Truncated = Unreadable bytes reasons.Truncated
unreadable bytes BadVersion = Unreadable bytes reasons.BadVersion

-- the content that an answer says bytes to be
abbrev pub read_content : List ℕ → Result Packet ReadFault → Content
read_content bytes (Ok p) = V6 p
read_content bytes (Err fault) = unreadable bytes fault

-- with a fault the bytes do not read, for that reason; with none they hold a packet
abbrev pub IsFault : List ℕ → Option ReadFault → Type 0
IsFault bytes None = HoldsPacket bytes
IsFault bytes (Some fault) = content_of bytes ≡ unreadable bytes fault
