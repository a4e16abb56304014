-- The head of a classic capture: 24 bytes with the magic, the version, three numbers that are not looked at, and the
-- link type in the low half of the last number (own rule for the format that is read).
use Rattle.std.specs.Prelude.{ℕ, ◌+◌, ◌*◌, ◌%◌, ◌==◌, ◌&&◌, nat_lt, if◌then◌else◌, Bool, true, false, List, ◌++◌, length, drop, Option, Some, None, Result, Ok, Err}
use Rattle.pcap_io.specs.declared.fault.CaptureFault.{CaptureFault}
use Rattle.pcap_io.specs.declared.fault.CaptureFault.TheVariants.{CutHead, PcapNg, BadMagic, BadVersion, BadLink}
use Rattle.pcap_io.specs.declared.capture_head.CaptureHead.{CaptureHead}
use Rattle.pcap_io.specs.declared.capture_head.LinkType.{LinkType}
use Rattle.pcap_io.specs.declared.capture_head.LinkType.TheVariants as links
use Rattle.pcap_io.specs.declared.capture_head.Magic.{Magic}
use Rattle.pcap_io.specs.declared.numbers.TheConstants.{HEAD_LEN, MICROS_MAGIC, NANOS_MAGIC, PCAPNG_MAGIC, MAJOR, MINOR, ETHERNET, RAW_IP, IPV6}
use Rattle.pcap_io.specs.Numbers.{number_of, number_bytes}

-- what a head says but nobody looks at: time zone, accuracy of times, longest frame, and the high half of the last number
pub record Unread : Type 0 where
  pub zone : ℕ
  pub sigfigs : ℕ
  pub snaplen : ℕ
  pub high : ℕ

-- the magic for microseconds, and for nanoseconds
abbrev pub magic_number : Bool → ℕ
magic_number true = NANOS_MAGIC
magic_number false = MICROS_MAGIC

abbrev pub link_number : LinkType → ℕ
link_number links.Ethernet = ETHERNET
link_number links.Raw = RAW_IP
link_number links.Ipv6 = IPV6

-- the 24 bytes of a head
unfoldable pub head_bytes : CaptureHead → Unread → List ℕ
head_bytes head u =
    number_bytes head.little 4 (magic_number head.nanos) ++
    (number_bytes head.little 2 MAJOR ++ (number_bytes head.little 2 MINOR ++
    (number_bytes head.little 4 u.zone ++ (number_bytes head.little 4 u.sigfigs ++
    (number_bytes head.little 4 u.snaplen ++ number_bytes head.little 4 (u.high * 65536 + link_number head.link))))))

-- the byte order and the resolution where the first 4 bytes are one of the four magics
unfoldable pub magic_of : List ℕ → Option Magic
magic_of bytes =
    if number_of true 4 bytes == MICROS_MAGIC then Some (record { little = true; nanos = false })
    else if number_of true 4 bytes == NANOS_MAGIC then Some (record { little = true; nanos = true })
    else if number_of false 4 bytes == MICROS_MAGIC then Some (record { little = false; nanos = false })
    else if number_of false 4 bytes == NANOS_MAGIC then Some (record { little = false; nanos = true })
    else None

abbrev pub link_of : ℕ → Result LinkType CaptureFault
link_of n =
    if n == ETHERNET then Ok links.Ethernet
    else if n == RAW_IP then Ok links.Raw
    else if n == IPV6 then Ok links.Ipv6
    else Err (BadLink n)

-- version 2.4
abbrev pub is_version : Bool → List ℕ → Bool
is_version little bytes = (number_of little 2 (drop 4 bytes) == MAJOR) && (number_of little 2 (drop 6 bytes) == MINOR)

-- the link type is the low half of the head's last number
abbrev pub link_type_at : Bool → List ℕ → ℕ
link_type_at little bytes = number_of little 4 (drop 20 bytes) % 65536

abbrev pub with_link : Magic → Result LinkType CaptureFault → Result CaptureHead CaptureFault
with_link m (Ok link) = Ok (record { little = m.little; nanos = m.nanos; link = link })
with_link m (Err fault) = Err fault

-- the head after a known magic
abbrev pub head_behind : Option Magic → List ℕ → Result CaptureHead CaptureFault
head_behind None bytes = Err BadMagic
head_behind (Some m) bytes =
    if nat_lt (length bytes) HEAD_LEN then Err CutHead
    else if is_version m.little bytes then with_link m (link_of (link_type_at m.little bytes))
    else Err BadVersion

-- The head that bytes begin with, or the first of the faults in this order: fewer than 4 bytes, the magic of pcapng, no
-- magic of a capture, fewer than 24 bytes after a magic, another version than 2.4, another link type.
unfoldable pub head_of : List ℕ → Result CaptureHead CaptureFault
head_of bytes =
    if nat_lt (length bytes) 4 then Err CutHead
    else if number_of false 4 bytes == PCAPNG_MAGIC then Err PcapNg
    else head_behind (magic_of bytes) bytes
