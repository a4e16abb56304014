-- IPv6 packets as values, their one spelling, and how bytes are read (RFC 8200 section 3).
use Rattle.std.specs.Prelude.{ℕ, ◌+◌, ◌*◌, ◌/◌, ◌%◌, ◌^◌, ◌<◌, ◌==◌, nat_lt, if◌then◌else◌, List, ◌∷◌, ◌++◌, length, take, drop, slice_index, All, Result, Ok, Err}
use Rattle.byteorder.specs.Endian.{big_number, big_bytes}
use Rattle.srv6_rules.specs.declared.numbers.TheConstants.{IPV6_HEADER_LEN, MAX_PACKET_LEN, IPV6_VERSION, PAYLOAD_LEN_AT, NEXT_HEADER_AT, HOP_LIMIT_AT, SOURCE_AT, DESTINATION_AT}
use Rattle.srv6_rules.specs.declared.family.Family.{Family}
use Rattle.srv6_rules.specs.declared.family.Family.TheVariants as families
use Rattle.srv6_rules.specs.declared.reason.Reason.{Reason}
use Rattle.srv6_rules.specs.declared.reason.Reason.TheVariants.{Truncated, BadVersion}
use Rattle.srv6_rules.specs.Packet4.{Packet4, spelling4, read4}

-- a packet: the fields of its IPv6 header but for the version and the payload length, and the bytes after that header
pub record Packet : Type 0 where
  pub traffic_class : ℕ
  pub flow_label : ℕ
  pub next_header : ℕ
  pub hop_limit : ℕ
  pub source : ℕ
  pub destination : ℕ
  pub payload : List ℕ

-- what a node holds: a packet of IPv6 or of IPv4, or bytes that do not read as one and why
pub data Content : Type 0 where
  V6 : Packet → Content
  V4 : Packet4 → Content
  Unreadable : List ℕ → Reason → Content

-- the IPv6 header's length in bytes
abbrev pub header_len : ℕ
header_len = IPV6_HEADER_LEN

-- the longest packet in bytes: a header and the greatest payload length
abbrev pub most_len : ℕ
most_len = MAX_PACKET_LEN

-- the 2, 4 or 16 bytes of a number, the highest first
unfoldable pub two_bytes : ℕ → List ℕ
two_bytes n = big_bytes 2 n

unfoldable pub four_bytes : ℕ → List ℕ
four_bytes n = big_bytes 4 n

unfoldable pub address_bytes : ℕ → List ℕ
address_bytes a = big_bytes 16 a

-- the number in the first 2, 4 or 16 bytes, the highest first
unfoldable pub two_number : List ℕ → ℕ
two_number bytes = big_number 2 bytes

unfoldable pub four_number : List ℕ → ℕ
four_number bytes = big_number 4 bytes

unfoldable pub address_number : List ℕ → ℕ
address_number bytes = big_number 16 bytes

-- version 6, traffic class and flow label, in 4, 8 and 20 bits
unfoldable pub first_word : ℕ → ℕ → ℕ
first_word traffic_class flow_label = IPV6_VERSION * 2 ^ 28 + traffic_class * 2 ^ 20 + flow_label

-- the bytes of a packet's header; its payload length is the payload's (RFC 8200 section 3)
unfoldable pub header_spelling : Packet → List ℕ
header_spelling p =
    four_bytes (first_word p.traffic_class p.flow_label) ++
    (two_bytes (length p.payload) ++ (p.next_header ∷ p.hop_limit ∷ (address_bytes p.source ++ address_bytes p.destination)))

-- the one spelling of a packet
abbrev pub spelling : Packet → List ℕ
spelling p = header_spelling p ++ p.payload

-- the packets that bytes can spell: each field fits its width
pub record IsSpellable (p : Packet) : Type 0 where
  pub traffic_class : p.traffic_class < 2 ^ 8
  pub flow_label : p.flow_label < 2 ^ 20
  pub next_header : p.next_header < 2 ^ 8
  pub hop_limit : p.hop_limit < 2 ^ 8
  pub source : p.source < 2 ^ 128
  pub destination : p.destination < 2 ^ 128
  pub payload_len : length p.payload < 2 ^ 16
  pub payload : All (λ b. b < 2 ^ 8) p.payload

-- the payload length that a header of at least 40 bytes states
unfoldable pub stated_len : List ℕ → ℕ
stated_len bytes = two_number (drop PAYLOAD_LEN_AT bytes)

-- the packet whose header these at least 40 bytes begin with; what stands after its end is cut
unfoldable pub packet_at : List ℕ → Packet
packet_at bytes =
    let word = four_number bytes in
    record {
      traffic_class = word / 2 ^ 20 % 2 ^ 8;
      flow_label = word % 2 ^ 20;
      next_header = slice_index bytes NEXT_HEADER_AT;
      hop_limit = slice_index bytes HOP_LIMIT_AT;
      source = address_number (drop SOURCE_AT bytes);
      destination = address_number (drop DESTINATION_AT bytes);
      payload = take (stated_len bytes) (drop header_len bytes);
    }

-- how bytes read as IPv6: the version is judged before the lengths where there is a byte (RFC 8200 section 3)
abbrev pub content_of : List ℕ → Content
content_of bytes =
    if length bytes == 0 then Unreadable bytes Truncated
    else if (slice_index bytes 0 / 16) == IPV6_VERSION
    then (if nat_lt (length bytes) header_len then Unreadable bytes Truncated
    else if nat_lt (length bytes) (header_len + stated_len bytes) then Unreadable bytes Truncated
    else V6 (packet_at bytes))
    else Unreadable bytes BadVersion

-- bytes that read as an IPv4 packet or, for a reason, do not
abbrev pub content4_by : List ℕ → Result Packet4 Reason → Content
content4_by bytes (Ok p) = V4 p
content4_by bytes (Err reason) = Unreadable bytes reason

-- how bytes read as a packet of a family
abbrev pub read_as : Family → List ℕ → Content
read_as families.V6 bytes = content_of bytes
read_as families.V4 bytes = content4_by bytes (read4 bytes)

-- what enters a node as a packet of a family: of bytes that do not read at most a longest packet's length is kept
abbrev pub entered : Family → List ℕ → Content
entered family bytes = read_as family (take most_len bytes)

-- the bytes of a content
abbrev pub bytes_of : Content → List ℕ
bytes_of (V6 p) = spelling p
bytes_of (V4 p) = spelling4 p
bytes_of (Unreadable bytes reason) = bytes
