-- Need not be believed: helps proofs and other laws.
-- How the bytes behind the last whole block of a pcapng file end (own rule): with none left, in a block that is cut, or with the first
-- block that is refused. Of one block the first of these is told: fewer than 12 bytes, a magic that is none, bytes missing behind its
-- Block Total Length, a form that is bad, and then what its body says.
use Rattle.std.specs.Prelude.{◌≡◌, ◌≢◌, ◌⊎◌, ℕ, ◌+◌, ◌-◌, ◌%◌, ◌^◌, ◌<◌, ◌≤◌, ◌==◌, if◌then◌else◌, Bool, true, false, List, [], ◌∷◌, ◌++◌, length, take, drop}
use Rattle.pcap_io.specs.Numbers.{number_bytes}
use Rattle.pcapng_theory.specs.NgBlocks.{bytes_of_block, FitsBlock, section_header_block, interface_description_block, obsolete_packet_block, simple_packet_block, enhanced_packet_block, byte_order_magic, SectionHeader, section_header_bytes, FitsSectionHeader, InterfaceDescription, enhanced_packet_fields, EnhancedPacket, FitsEnhancedPacket, captured_length, SimplePacket, Block, Enhanced, Simple, block_bytes, Fits}

pub data Ending : Type 0 where
  EndOfBytes : Ending
  Cut : Ending
  BadMagic : Ending
  BadBlock : Ending
  BadVersion : Ending
  NoInterface : Ending
  ObsoleteBlock : Ending
  TooManyPackets : Ending

-- ---- the front of a block

-- the byte order of a block, its Block Type, its Block Total Length, and the bytes behind them
pub record Front : Type 0 where
  pub little : Bool
  pub kind : ℕ
  pub total : ℕ
  pub behind : List ℕ

-- a block has the byte order of its section, and a Section Header Block that of its own magic
abbrev pub HasOrder : Bool → Front → Type 0
HasOrder little f =
    ((f.kind ≡ section_header_block) × (take 4 f.behind ≡ number_bytes f.little 4 byte_order_magic))
    ⊎ ((f.kind ≢ section_header_block) × (f.little ≡ little))

-- bytes begin with the first 12 bytes of a block, in a section of this byte order
pub record BeginsWith (little : Bool) (bytes : List ℕ) (f : Front) : Type 0 where
  pub spelled : bytes ≡ number_bytes f.little 4 f.kind ++ (number_bytes f.little 4 f.total ++ f.behind)
  pub kind : f.kind < 2 ^ 32
  pub total : f.total < 2 ^ 32
  pub long : 4 ≤ length f.behind
  pub order : HasOrder little f

-- ---- a block that is cut

-- fewer bytes are left than each block has, or than this block's total length says
abbrev pub IsCut : Bool → List ℕ → Type 0
IsCut little bytes =
    ((0 < length bytes) × (length bytes < 12))
    ⊎ ((f : Front) × BeginsWith little bytes f × (length bytes < f.total))

-- ---- a block that is refused

-- a Section Header Block whose magic reads 1a2b3c4d in neither byte order
pub record HasBadMagic (bytes : List ℕ) : Type 0 where
  pub total : List ℕ
  pub magic : List ℕ
  pub behind : List ℕ
  pub spelled : bytes ≡ number_bytes false 4 section_header_block ++ (total ++ (magic ++ behind))
  pub total_len : length total ≡ 4
  pub magic_len : length magic ≡ 4
  pub not_little : magic ≢ number_bytes true 4 byte_order_magic
  pub not_big : magic ≢ number_bytes false 4 byte_order_magic

-- the fewest bytes of a block: its type and its total length twice, and the fields that it always has
abbrev pub least_total : ℕ → ℕ
least_total kind =
    if kind == section_header_block then 12 + 16
    else if kind == interface_description_block then 12 + 8
    else if kind == enhanced_packet_block then 12 + 20
    else if kind == simple_packet_block then 12 + 4
    else 12

-- a total length that is no multiple of 4, that is too low, or that is another at the block's end
abbrev pub IsMisshapen : Front → List ℕ → Type 0
IsMisshapen f bytes =
    (f.total % 4 ≢ 0) ⊎ ((f.total < least_total f.kind) ⊎ (take 4 (drop (f.total - 4) bytes) ≢ number_bytes f.little 4 f.total))

pub record HasBadForm (little : Bool) (bytes : List ℕ) : Type 0 where
  pub front : Front
  pub begins : BeginsWith little bytes front
  pub there : front.total ≤ length bytes
  pub misshapen : IsMisshapen front bytes

-- bytes begin with a block of this type and body
pub record HoldsBlock (little : Bool) (kind : ℕ) (body bytes : List ℕ) : Type 0 where
  pub fits : FitsBlock kind body
  pub behind : List ℕ
  pub spelled : bytes ≡ bytes_of_block little kind body ++ behind

-- an enhanced packet of which more bytes were captured than are there
pub record HasLongEnhanced (little : Bool) (bytes : List ℕ) : Type 0 where
  pub interface : ℕ
  pub upper : ℕ
  pub lower : ℕ
  pub captured : ℕ
  pub original : ℕ
  pub rest : List ℕ
  pub captured_fits : captured < 2 ^ 32
  pub block : HoldsBlock little enhanced_packet_block (enhanced_packet_fields little interface upper lower captured original rest) bytes
  pub long : length rest < captured

-- a simple packet of the first interface, of which more bytes were captured than are there
pub record HasLongSimple (little : Bool) (interfaces : List InterfaceDescription) (bytes : List ℕ) : Type 0 where
  pub first : InterfaceDescription
  pub others : List InterfaceDescription
  pub described : interfaces ≡ first ∷ others
  pub original : ℕ
  pub rest : List ℕ
  pub original_fits : original < 2 ^ 32
  pub block : HoldsBlock little simple_packet_block (number_bytes little 4 original ++ rest) bytes
  pub long : length rest < captured_length first.snap_len original

-- a section of another major version than 1
pub record HasBadVersion (bytes : List ℕ) : Type 0 where
  pub header : SectionHeader
  pub fits : FitsSectionHeader header
  pub other : header.major ≢ 1
  pub behind : List ℕ
  pub spelled : bytes ≡ section_header_bytes header ++ behind

-- an enhanced packet whose interface is not described
pub record HasUnknownInterface (little : Bool) (interfaces : List InterfaceDescription) (bytes : List ℕ) : Type 0 where
  pub packet : EnhancedPacket
  pub fits : FitsEnhancedPacket little packet
  pub unknown : length interfaces ≤ packet.interface
  pub behind : List ℕ
  pub spelled : bytes ≡ block_bytes little (Enhanced packet) ++ behind

-- a simple packet where no interface is described, whatever it holds
pub record HasNoFirstInterface (little : Bool) (interfaces : List InterfaceDescription) (bytes : List ℕ) : Type 0 where
  pub none : interfaces ≡ []
  pub original : ℕ
  pub rest : List ℕ
  pub original_fits : original < 2 ^ 32
  pub block : HoldsBlock little simple_packet_block (number_bytes little 4 original ++ rest) bytes

abbrev pub IsPacket : Block → Type 0
IsPacket block = ((p : EnhancedPacket) × (block ≡ Enhanced p)) ⊎ ((p : SimplePacket) × (block ≡ Simple p))

-- a packet that is not refused, behind as many as are read
pub record HasTooMany (little : Bool) (interfaces : List InterfaceDescription) (packets : ℕ) (bytes : List ℕ) : Type 0 where
  pub many : packets ≡ 65536
  pub block : Block
  pub packet : IsPacket block
  pub fits : Fits little interfaces block
  pub behind : List ℕ
  pub spelled : bytes ≡ block_bytes little block ++ behind

-- How bytes end in a section of this byte order, behind these interfaces of it and so many packets of the file.
abbrev pub EndsAs : Bool → List InterfaceDescription → ℕ → List ℕ → Ending → Type 0
EndsAs little interfaces packets bytes EndOfBytes = bytes ≡ []
EndsAs little interfaces packets bytes Cut = IsCut little bytes
EndsAs little interfaces packets bytes BadMagic = HasBadMagic bytes
EndsAs little interfaces packets bytes BadBlock =
    HasBadForm little bytes ⊎ (HasLongEnhanced little bytes ⊎ HasLongSimple little interfaces bytes)
EndsAs little interfaces packets bytes BadVersion = HasBadVersion bytes
EndsAs little interfaces packets bytes NoInterface =
    HasUnknownInterface little interfaces bytes ⊎ HasNoFirstInterface little interfaces bytes
EndsAs little interfaces packets bytes ObsoleteBlock = (body : List ℕ) × HoldsBlock little obsolete_packet_block body bytes
EndsAs little interfaces packets bytes TooManyPackets = HasTooMany little interfaces packets bytes
