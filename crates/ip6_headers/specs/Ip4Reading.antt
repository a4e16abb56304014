-- Need not be believed: helps proofs and other laws.
-- What reading says of bytes as IPv4 (RFC 791 section 3.1).
use Rattle.std.specs.Prelude.{◌≡◌, ℕ, ◌<◌, ◌^◌, ◌≤◌, List, length, All, Option, Some, None, Result, Ok, Err}
use Rattle.srv6_rules.specs.declared.numbers.TheConstants.{IPV4_HEADER_LEN}
use Rattle.srv6_rules.specs.declared.reason.Reason.{Reason}
use Rattle.srv6_rules.specs.declared.reason.Reason.TheVariants as reasons
use Rattle.srv6_rules.specs.Packet4.{Packet4, read4, packet4_at, stated_header_len, total_len}
use Rattle.ip6_headers.specs.declared.faults.ReadFault.{ReadFault}
use Rattle.ip6_headers.specs.declared.faults.ReadFault.TheVariants.{Truncated, BadVersion}

-- the bytes hold the packet that their header states
pub record HoldsPacket4 (bytes : List ℕ) : Type 0 where
  pub reads : read4 bytes ≡ Ok (packet4_at bytes)
  pub least : IPV4_HEADER_LEN ≤ stated_header_len bytes
  pub header : stated_header_len bytes ≤ total_len bytes
  pub whole : total_len bytes ≤ length bytes
  pub in_range : All (λ b. b < 2 ^ 8) bytes

-- why bytes do not read
abbrev pub reason_of : ReadFault → Reason
reason_of Truncated = reasons.Truncated
reason_of BadVersion = reasons.BadVersion

-- what an answer says bytes to be
abbrev pub read_packet4 : Result Packet4 ReadFault → Result Packet4 Reason
read_packet4 (Ok p) = Ok p
read_packet4 (Err fault) = Err (reason_of fault)

-- with a fault the bytes do not read, for that reason; with none they hold a packet
abbrev pub IsFault4 : List ℕ → Option ReadFault → Type 0
IsFault4 bytes None = HoldsPacket4 bytes
IsFault4 bytes (Some fault) = read4 bytes ≡ Err (reason_of fault)
