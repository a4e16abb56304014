-- IPv4 packets as values, their one spelling, how bytes are read, and a lower time to live (RFC 791 section 3.1).
use Rattle.std.specs.Prelude.{◌≡◌, ℕ, ◌+◌, ◌-◌, ◌*◌, ◌/◌, ◌%◌, ◌^◌, ◌<◌, ◌≤◌, Bool, ◌==◌, ◌||◌, nat_lt, if◌then◌else◌, List, ◌++◌, length, take, drop, slice_index, slice_set, All, Result, Ok, Err}
use Rattle.byteorder.specs.Endian.{big_number, big_bytes}
use Rattle.srv6_rules.specs.declared.numbers.TheConstants.{IPV4_VERSION, IPV4_HEADER_LEN, IPV4_LEN_UNIT, TOTAL_LEN_AT, TTL_AT, PROTOCOL_AT, CHECKSUM_AT, IPV4_SOURCE_AT, IPV4_DESTINATION_AT, TTL_WEIGHT, CHECKSUM_WRAP}
use Rattle.srv6_rules.specs.declared.reason.Reason.{Reason}
use Rattle.srv6_rules.specs.declared.reason.Reason.TheVariants.{Truncated, BadVersion}

-- a packet: the bytes of its header, options among them, and the bytes after it
pub record Packet4 : Type 0 where
  pub header : List ℕ
  pub payload : List ℕ

-- ---- the fields of a header, by the places of its bytes

-- the length in bytes that a header states for itself, in its second half byte
unfoldable pub stated_header_len : List ℕ → ℕ
stated_header_len header = IPV4_LEN_UNIT * (slice_index header 0 % 16)

-- the length in bytes that it states for the packet, the header among it
unfoldable pub total_len : List ℕ → ℕ
total_len header = big_number 2 (drop TOTAL_LEN_AT header)

abbrev pub ttl : Packet4 → ℕ
ttl p = slice_index p.header TTL_AT

-- the number that names what stands after the header
abbrev pub protocol : Packet4 → ℕ
protocol p = slice_index p.header PROTOCOL_AT

unfoldable pub header_checksum : List ℕ → ℕ
header_checksum header = big_number 2 (drop CHECKSUM_AT header)

-- an address as those of IPv6 are kept, in the highest 32 of 128 bits
unfoldable pub address4_at : ℕ → List ℕ → ℕ
address4_at at header = big_number 4 (drop at header) * 2 ^ 96

abbrev pub source4 : Packet4 → ℕ
source4 p = address4_at IPV4_SOURCE_AT p.header

abbrev pub destination4 : Packet4 → ℕ
destination4 p = address4_at IPV4_DESTINATION_AT p.header

-- ---- spelling and reading

-- the one spelling of a packet
abbrev pub spelling4 : Packet4 → List ℕ
spelling4 p = p.header ++ p.payload

-- the packets that bytes can spell: the header is as long as it states, at least 20 bytes, and states the packet's length
pub record IsSpellable4 (p : Packet4) : Type 0 where
  pub version : slice_index p.header 0 / 16 ≡ IPV4_VERSION
  pub least : IPV4_HEADER_LEN ≤ length p.header
  pub header_len : length p.header ≡ stated_header_len p.header
  pub total : total_len p.header ≡ length p.header + length p.payload
  pub header : All (λ b. b < 2 ^ 8) p.header
  pub payload : All (λ b. b < 2 ^ 8) p.payload

-- the packet whose header these at least 20 bytes begin with; what stands after its end is cut
unfoldable pub packet4_at : List ℕ → Packet4
packet4_at bytes =
    let len = stated_header_len bytes in
    record { header = take len bytes; payload = take (total_len bytes - len) (drop len bytes) }

-- the lengths that a header of at least 20 bytes states do not fit: its own is below 20 bytes, the packet's is below its own, or
-- the packet is not there
abbrev pub is_cut4 : List ℕ → Bool
is_cut4 bytes =
    nat_lt (stated_header_len bytes) IPV4_HEADER_LEN
    || (nat_lt (total_len bytes) (stated_header_len bytes) || nat_lt (length bytes) (total_len bytes))

-- how bytes read as IPv4, or why they do not: the version is judged before the lengths where there is a byte (RFC 791 section
-- 3.1; the order is an own rule). The checksum is not verified
abbrev pub read4 : List ℕ → Result Packet4 Reason
read4 bytes =
    if length bytes == 0 then Err Truncated
    else if (slice_index bytes 0 / 16) == IPV4_VERSION
    then (if nat_lt (length bytes) IPV4_HEADER_LEN then Err Truncated
    else if is_cut4 bytes then Err Truncated
    else Ok (packet4_at bytes))
    else Err BadVersion

-- ---- a time to live that is lower by one

-- the checksum of a header whose time to live is lower by one: higher by what that weighs, and from 65,535 on by that less
-- 65,535, which in one's complement is 0 (RFC 1624 section 3)
abbrev pub checksum_lowered : ℕ → ℕ
checksum_lowered c = if nat_lt c CHECKSUM_WRAP then c + TTL_WEIGHT else c - CHECKSUM_WRAP

-- the bytes whose time to live is lower by one, and whose checksum follows
unfoldable pub ttl_lowered : List ℕ → List ℕ
ttl_lowered bytes =
    let fewer = slice_set bytes TTL_AT (slice_index bytes TTL_AT - 1) in
    take CHECKSUM_AT fewer ++ (big_bytes 2 (checksum_lowered (header_checksum bytes)) ++ drop IPV4_SOURCE_AT fewer)

-- a packet before it is sent on or encapsulated
abbrev pub lowered4 : Packet4 → Packet4
lowered4 p = record p { header = ttl_lowered p.header }
