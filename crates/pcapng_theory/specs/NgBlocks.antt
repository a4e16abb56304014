-- Need not be believed: helps proofs and other laws.
-- A grammar of pcapng files, to be read against the draft: the blocks and the bytes that spell them (draft-ietf-opsawg-pcapng sections
-- 3.1 and 4.1 to 4.4). Fields stand in the order of the draft's figures, and every number has the byte order of its section, `true`
-- being the lowest byte first.
use Rattle.std.specs.Prelude.{◌≡◌, ◌≢◌, ℕ, ◌+◌, ◌%◌, ◌^◌, ◌<◌, min, ◌==◌, if◌then◌else◌, Bool, List, [], ◌∷◌, ◌++◌, length, slice_get, Option, Some, None}
use Rattle.std.specs.List.{flat_map}
use Rattle.pcap_io.specs.Numbers.{number_bytes}

-- ---- every block (section 3.1)

-- Block Type, Block Total Length, Block Body, and Block Total Length once more, which counts all four
abbrev pub bytes_of_block : Bool → ℕ → List ℕ → List ℕ
bytes_of_block little kind body =
    number_bytes little 4 kind ++ (number_bytes little 4 (length body + 12) ++ (body ++ number_bytes little 4 (length body + 12)))

-- a type, and a body of a multiple of 4 bytes, that have a spelling
pub record FitsBlock (block_type : ℕ) (body : List ℕ) : Type 0 where
  pub kind : block_type < 2 ^ 32
  pub padded : length body % 4 ≡ 0
  pub short : length body + 12 < 2 ^ 32

-- Block Types

abbrev pub section_header_block : ℕ
section_header_block = 0x0a0d0d0a

abbrev pub interface_description_block : ℕ
interface_description_block = 1

abbrev pub obsolete_packet_block : ℕ
obsolete_packet_block = 2

abbrev pub simple_packet_block : ℕ
simple_packet_block = 3

abbrev pub enhanced_packet_block : ℕ
enhanced_packet_block = 6

-- ---- Section Header Block (section 4.1)

abbrev pub byte_order_magic : ℕ
byte_order_magic = 0x1a2b3c4d

-- the section's byte order, Major Version, Minor Version, Section Length and Options
pub record SectionHeader : Type 0 where
  pub little : Bool
  pub major : ℕ
  pub minor : ℕ
  pub section_length : ℕ
  pub options : List ℕ

abbrev pub section_header_body : SectionHeader → List ℕ
section_header_body h =
    number_bytes h.little 4 byte_order_magic ++ (number_bytes h.little 2 h.major ++ (number_bytes h.little 2 h.minor ++
    (number_bytes h.little 8 h.section_length ++ h.options)))

abbrev pub section_header_bytes : SectionHeader → List ℕ
section_header_bytes h = bytes_of_block h.little section_header_block (section_header_body h)

pub record FitsSectionHeader (h : SectionHeader) : Type 0 where
  pub major : h.major < 2 ^ 16
  pub minor : h.minor < 2 ^ 16
  pub section_length : h.section_length < 2 ^ 64
  pub block : FitsBlock section_header_block (section_header_body h)

-- ---- Interface Description Block (section 4.2)

-- LinkType, Reserved, SnapLen and Options
pub record InterfaceDescription : Type 0 where
  pub link_type : ℕ
  pub reserved : ℕ
  pub snap_len : ℕ
  pub options : List ℕ

abbrev pub interface_description_body : Bool → InterfaceDescription → List ℕ
interface_description_body little d =
    number_bytes little 2 d.link_type ++ (number_bytes little 2 d.reserved ++ (number_bytes little 4 d.snap_len ++ d.options))

pub record FitsInterfaceDescription (little : Bool) (d : InterfaceDescription) : Type 0 where
  pub link_type : d.link_type < 2 ^ 16
  pub reserved : d.reserved < 2 ^ 16
  pub snap_len : d.snap_len < 2 ^ 32
  pub block : FitsBlock interface_description_block (interface_description_body little d)

-- ---- Enhanced Packet Block (section 4.3)

-- Packet Data is padded to a multiple of 4 bytes
pub record IsPadded (packet_data padding : List ℕ) : Type 0 where
  pub whole : (length packet_data + length padding) % 4 ≡ 0
  pub few : length padding < 4

-- Interface ID, Timestamp (Upper 4 bytes and Lower 4 bytes), Captured Packet Length, Original Packet Length, and what follows them
abbrev pub enhanced_packet_fields : Bool → ℕ → ℕ → ℕ → ℕ → ℕ → List ℕ → List ℕ
enhanced_packet_fields little interface upper lower captured original behind =
    number_bytes little 4 interface ++ (number_bytes little 4 upper ++ (number_bytes little 4 lower ++
    (number_bytes little 4 captured ++ (number_bytes little 4 original ++ behind))))

-- the Captured Packet Length is the number of the bytes of Packet Data
pub record EnhancedPacket : Type 0 where
  pub interface : ℕ
  pub upper : ℕ
  pub lower : ℕ
  pub original : ℕ
  pub packet_data : List ℕ
  pub padding : List ℕ
  pub options : List ℕ

abbrev pub enhanced_packet_body : Bool → EnhancedPacket → List ℕ
enhanced_packet_body little p =
    enhanced_packet_fields little p.interface p.upper p.lower (length p.packet_data) p.original
    (p.packet_data ++ (p.padding ++ p.options))

pub record FitsEnhancedPacket (little : Bool) (p : EnhancedPacket) : Type 0 where
  pub interface : p.interface < 2 ^ 32
  pub upper : p.upper < 2 ^ 32
  pub lower : p.lower < 2 ^ 32
  pub original : p.original < 2 ^ 32
  pub padding : IsPadded p.packet_data p.padding
  pub block : FitsBlock enhanced_packet_block (enhanced_packet_body little p)

-- ---- Simple Packet Block (section 4.4)

-- Original Packet Length, Packet Data, and bytes behind it that are not looked at (own rule; the draft has none)
pub record SimplePacket : Type 0 where
  pub original : ℕ
  pub packet_data : List ℕ
  pub padding : List ℕ
  pub unread : List ℕ

abbrev pub simple_packet_body : Bool → SimplePacket → List ℕ
simple_packet_body little p = number_bytes little 4 p.original ++ (p.packet_data ++ (p.padding ++ p.unread))

pub record FitsSimplePacket (little : Bool) (p : SimplePacket) : Type 0 where
  pub original : p.original < 2 ^ 32
  pub padding : IsPadded p.packet_data p.padding
  pub block : FitsBlock simple_packet_block (simple_packet_body little p)

-- how many bytes of a packet an interface captures: at most its SnapLen, and all where that is 0 (section 4.2)
abbrev pub captured_length : ℕ → ℕ → ℕ
captured_length snap_len original = if snap_len == 0 then original else min snap_len original

-- ---- the blocks of a section behind its header

pub data Block : Type 0 where
  Interface : InterfaceDescription → Block
  Enhanced : EnhancedPacket → Block
  Simple : SimplePacket → Block
  -- a Block Type and a Block Body that are not looked into
  Other : ℕ → List ℕ → Block

abbrev pub block_bytes : Bool → Block → List ℕ
block_bytes little (Interface d) = bytes_of_block little interface_description_block (interface_description_body little d)
block_bytes little (Enhanced p) = bytes_of_block little enhanced_packet_block (enhanced_packet_body little p)
block_bytes little (Simple p) = bytes_of_block little simple_packet_block (simple_packet_body little p)
block_bytes little (Other kind body) = bytes_of_block little kind body

-- the interfaces that blocks describe; the first has Interface ID 0 (section 4.2)

abbrev pub described_by : Block → List InterfaceDescription
described_by (Interface d) = d ∷ []
described_by (Enhanced p) = []
described_by (Simple p) = []
described_by (Other kind body) = []

abbrev pub interfaces_in : List Block → List InterfaceDescription
interfaces_in blocks = flat_map described_by blocks

-- a type that is none of those above
pub record IsOther (kind : ℕ) : Type 0 where
  pub no_section_header : kind ≢ section_header_block
  pub no_interface_description : kind ≢ interface_description_block
  pub no_obsolete_packet : kind ≢ obsolete_packet_block
  pub no_simple_packet : kind ≢ simple_packet_block
  pub no_enhanced_packet : kind ≢ enhanced_packet_block

-- a simple packet is of the first interface, which says how many of its bytes were captured
abbrev pub IsOfFirst : List InterfaceDescription → SimplePacket → Type 0
IsOfFirst [] p = ⊥
IsOfFirst (first ∷ others) p = length p.packet_data ≡ captured_length first.snap_len p.original

-- A block may stand in a section of this byte order behind these interfaces.
abbrev pub Fits : Bool → List InterfaceDescription → Block → Type 0
Fits little before (Interface d) = FitsInterfaceDescription little d
Fits little before (Enhanced p) = FitsEnhancedPacket little p × (p.interface < length before)
Fits little before (Simple p) = FitsSimplePacket little p × IsOfFirst before p
Fits little before (Other kind body) = IsOther kind × FitsBlock kind body

-- each of the blocks of a section may stand behind the interfaces that those before it describe
abbrev pub AllFit : Bool → List Block → Type 0
AllFit little blocks =
    (before : List Block) (block : Block) (behind : List Block) → blocks ≡ before ++ (block ∷ behind)
    → Fits little (interfaces_in before) block

-- ---- the packets of a section

-- the LinkType of its interface, its Original Packet Length and its Packet Data
pub record Packet : Type 0 where
  pub link_type : ℕ
  pub original : ℕ
  pub packet_data : List ℕ

abbrev pub packet_of : Option InterfaceDescription → ℕ → List ℕ → List Packet
packet_of (Some d) original packet_data =
    record { link_type = d.link_type; original = original; packet_data = packet_data } ∷ []
packet_of None original packet_data = []

-- the packet in a block, where there is one, in a section of these interfaces
abbrev pub packets_by : List InterfaceDescription → Block → List Packet
packets_by interfaces (Interface d) = []
packets_by interfaces (Enhanced p) = packet_of (slice_get interfaces p.interface) p.original p.packet_data
packets_by interfaces (Simple p) = packet_of (slice_get interfaces 0) p.original p.packet_data
packets_by interfaces (Other kind body) = []

abbrev pub packets_in : List Block → List Packet
packets_in blocks = flat_map (packets_by (interfaces_in blocks)) blocks
