-- The lines of bytes that do not read, by the fault of reading, and what the text of an IPv4 address asks of it.
use Rattle.std.proofs.Common.{◌≡◌, ℕ, ◌%◌, ◌^◌, List, refl}
use Rattle.std.proofs.Math.Nat.{mul-mod_left}
use Rattle.srv6_rules.specs.Packet4.{Packet4, address4_at, source4, destination4}
use Rattle.ip6_headers.specs.declared.faults.ReadFault.{ReadFault}
use Rattle.ip6_headers.specs.declared.faults.ReadFault.TheVariants.{Truncated, BadVersion}
use Rattle.ip6_headers.specs.Ip6Reading.{unreadable}
use Rattle.ip6_headers.specs.Ip4Reading.{reason_of}
use Rattle.header_lines.specs.HeaderLines.{content_lines, fault_line}

pub unreadable_lines : (bytes : List ℕ) (fault : ReadFault) → content_lines (unreadable bytes fault) ≡ fault_line (reason_of fault)
unreadable_lines bytes Truncated = refl
unreadable_lines bytes BadVersion = refl

-- an address stands in the highest 32 bits

low_address : (at : ℕ) (header : List ℕ) → address4_at at header % 2 ^ 96 ≡ 0
unfolding address4_at
low_address at header = mul-mod_left _ (2 ^ 96)

pub low_source : (p : Packet4) → source4 p % 2 ^ 96 ≡ 0
low_source p = low_address 12 p.header

pub low_destination : (p : Packet4) → destination4 p % 2 ^ 96 ≡ 0
low_destination p = low_address 16 p.header

pub ruleset lows = (low_source, low_destination)

pub ruleset faults = (unreadable_lines)
