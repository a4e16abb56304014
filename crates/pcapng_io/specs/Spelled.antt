-- Need not be believed: helps proofs and other laws.
-- How a pcapng file is spelled: one section with one interface, and enhanced packets of it (draft-ietf-opsawg-pcapng sections
-- 3.1 and 4.1 to 4.3).
use Rattle.std.specs.Prelude.{◌≡◌, ℕ, ◌+◌, ◌%◌, ◌^◌, ◌<◌, nat_lt, if◌then◌else◌, Bool, Option, List, [], ◌∷◌, ◌++◌, length}
use Rattle.std.specs.List.{flat_map}
use Rattle.pcap_io.specs.declared.frame.Frame.{Frame}
use Rattle.pcap_io.specs.declared.capture_head.LinkType.{LinkType}
use Rattle.pcap_io.specs.Numbers.{number_bytes}
use Rattle.pcap_io.specs.declared.frame.Body.TheVariants.{ShortFrame}
use Rattle.pcapng_io.specs.declared.numbers.TheConstants.{SECTION, INTERFACE, ENHANCED_PACKET, ORDER_MAGIC, MAJOR}
use Rattle.pcapng_io.specs.Blocks.{filled, body_in}

-- type, total length, body, total length
abbrev pub block_bytes : Bool → ℕ → List ℕ → List ℕ
block_bytes little kind body =
    number_bytes little 4 kind ++ (number_bytes little 4 (length body + 12) ++ (body ++ number_bytes little 4 (length body + 12)))

-- a body that fills its block: a multiple of 4 whose total length has a spelling
pub record FitsBody (body : List ℕ) : Type 0 where
  pub whole : length body % 4 ≡ 0
  pub short : length body + 12 < 2 ^ 32

-- what a file says before its packets; of a section and an interface, the link type and the snaplen alone are of use
pub record NgHead : Type 0 where
  pub little : Bool
  pub minor : ℕ
  pub section_length : List ℕ
  pub section_options : List ℕ
  pub link : ℕ
  pub reserved : ℕ
  pub snaplen : ℕ
  pub interface_options : List ℕ

abbrev pub section_body : NgHead → List ℕ
section_body h =
    number_bytes h.little 4 ORDER_MAGIC ++ (number_bytes h.little 2 MAJOR ++
    (number_bytes h.little 2 h.minor ++ (h.section_length ++ h.section_options)))

abbrev pub interface_body : NgHead → List ℕ
interface_body h =
    number_bytes h.little 2 h.link ++ (number_bytes h.little 2 h.reserved ++ (number_bytes h.little 4 h.snaplen ++ h.interface_options))

pub record FitsNgHead (h : NgHead) : Type 0 where
  pub section_length : length h.section_length ≡ 8
  pub section : FitsBody (section_body h)
  pub link : h.link < 2 ^ 16
  pub interface : FitsBody (interface_body h)

abbrev pub ng_head_bytes : NgHead → List ℕ
ng_head_bytes h = block_bytes h.little SECTION (section_body h) ++ block_bytes h.little INTERFACE (interface_body h)

-- a packet of interface 0: the halves of its time, its original length, its bytes, what fills them up, and options
pub record NgSpelled : Type 0 where
  pub high : ℕ
  pub low : ℕ
  pub original : ℕ
  pub captured : List ℕ
  pub filling : List ℕ
  pub options : List ℕ

abbrev pub packet_body : Bool → NgSpelled → List ℕ
packet_body little p =
    number_bytes little 4 0 ++ (number_bytes little 4 p.high ++ (number_bytes little 4 p.low ++
    (number_bytes little 4 (length p.captured) ++ (number_bytes little 4 p.original ++ (p.captured ++ (p.filling ++ p.options))))))

pub record FitsNgPacket (little : Bool) (p : NgSpelled) : Type 0 where
  pub original : p.original < 2 ^ 32
  pub filling : length p.captured + length p.filling ≡ filled (length p.captured)
  pub body : FitsBody (packet_body little p)

abbrev pub packet_bytes : Bool → NgSpelled → List ℕ
packet_bytes little p = block_bytes little ENHANCED_PACKET (packet_body little p)

-- the frame that comes of it: where bytes were left out it is not looked into
abbrev pub frame_read : Option LinkType → ℕ → NgSpelled → Frame
frame_read link n p =
    record { number = n; body = if nat_lt (length p.captured) p.original then ShortFrame else body_in link p.captured }

-- the frames of packets one after the other, numbered from n on
abbrev pub frames_read : Option LinkType → ℕ → List NgSpelled → List Frame
frames_read link n [] = []
frames_read link n (p ∷ ps) = frame_read link n p ∷ frames_read link (n + 1) ps

abbrev pub ng_bytes : NgHead → List NgSpelled → List ℕ
ng_bytes h ps = ng_head_bytes h ++ flat_map (packet_bytes h.little) ps
