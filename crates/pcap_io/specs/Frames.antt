-- The frames of a classic capture, one after the other after its head: four numbers and the captured bytes (own rule
-- for the format that is read).
use Rattle.std.specs.Prelude.{ℕ, zero, suc, ◌+◌, ◌/◌, ◌==◌, nat_lt, nat_le, if◌then◌else◌, Bool, true, false, List, [], ◌∷◌, ◌++◌, length, take, drop, slice_index}
use Rattle.pcap_io.specs.declared.frame.Body.{Body}
use Rattle.pcap_io.specs.declared.frame.Body.TheVariants.{V6, V4, ShortFrame, NotIp}
use Rattle.pcap_io.specs.declared.frame.Frame.{Frame}
use Rattle.pcap_io.specs.declared.capture_head.CaptureHead.{CaptureHead}
use Rattle.pcap_io.specs.declared.capture_head.LinkType.{LinkType}
use Rattle.pcap_io.specs.declared.capture_head.LinkType.TheVariants as links
use Rattle.pcap_io.specs.declared.numbers.TheConstants.{ETHERTYPE_V6, ETHERTYPE_V4}
use Rattle.pcap_io.specs.Numbers.{number_of, number_bytes}

-- a frame as it stands in a capture; its captured length is the number of its captured bytes
pub record Spelled : Type 0 where
  pub seconds : ℕ
  pub fraction : ℕ
  pub original : ℕ
  pub captured : List ℕ

-- the numbers of a frame: seconds, fraction, captured and original length
unfoldable pub numbers_of_frame : Bool → ℕ → ℕ → ℕ → ℕ → List ℕ
numbers_of_frame little seconds fraction captured original =
    number_bytes little 4 seconds ++ (number_bytes little 4 fraction ++
    (number_bytes little 4 captured ++ number_bytes little 4 original))

-- the numbers, then the captured bytes
abbrev pub frame_bytes : Bool → Spelled → List ℕ
frame_bytes little f = numbers_of_frame little f.seconds f.fraction (length f.captured) f.original ++ f.captured

-- the length of the frame at the front in bytes, as its numbers say
unfoldable pub frame_len : Bool → List ℕ → ℕ
frame_len little bytes = 16 + number_of little 4 (drop 8 bytes)

-- the frame at the front, where it is whole
unfoldable pub first_frame : Bool → List ℕ → Spelled
first_frame little bytes =
    record {
      seconds = number_of little 4 bytes;
      fraction = number_of little 4 (drop 4 bytes);
      original = number_of little 4 (drop 12 bytes);
      captured = take (number_of little 4 (drop 8 bytes)) (drop 16 bytes);
    }

-- what is after it
abbrev pub behind : Bool → List ℕ → List ℕ
behind little bytes = drop (frame_len little bytes) bytes

-- a packet by its first half byte; no bytes are no packet
abbrev pub by_version : List ℕ → Body
by_version bytes =
    if slice_index bytes 0 / 16 == 6 then V6 bytes
    else if slice_index bytes 0 / 16 == 4 then V4 bytes
    else NotIp

-- a packet by the EtherType after the two addresses
abbrev pub by_ethertype : List ℕ → Body
by_ethertype bytes =
    if nat_lt (length bytes) 14 then NotIp
    else if number_of false 2 (drop 12 bytes) == ETHERTYPE_V6 then V6 (drop 14 bytes)
    else if number_of false 2 (drop 12 bytes) == ETHERTYPE_V4 then V4 (drop 14 bytes)
    else NotIp

-- the packet in the captured bytes of a frame, by the link type
unfoldable pub packet_in : LinkType → List ℕ → Body
packet_in links.Ethernet bytes = by_ethertype bytes
packet_in links.Raw bytes = by_version bytes
packet_in links.Ipv6 bytes = V6 bytes

-- what a frame holds: one of which bytes were left out is not looked into
unfoldable pub body_of : LinkType → Spelled → Body
body_of link f = if nat_lt (length f.captured) f.original then ShortFrame else packet_in link f.captured

abbrev pub numbered : LinkType → ℕ → Spelled → Frame
numbered link n f = record { number = n; body = body_of link f }

-- the first frames of bytes, and what is after them
pub record Reading : Type 0 where
  pub frames : List Frame
  pub rest : List ℕ

abbrev pub with_front : List Frame → Reading → Reading
with_front front r = record { frames = front ++ r.frames; rest = r.rest }

-- the whole frames at the front of bytes, but at most so many, numbered from n on
unfoldable pub frames_of : CaptureHead → ℕ → ℕ → List ℕ → Reading
frames_of head zero n bytes = record { frames = []; rest = bytes }
frames_of head (suc most) n bytes =
    elim (nat_le (frame_len head.little bytes) (length bytes)) [
      | true ↦ with_front (numbered head.link n (first_frame head.little bytes) ∷ [])
          (frames_of head most (n + 1) (behind head.little bytes))
      | false ↦ record { frames = []; rest = bytes }
    ]
