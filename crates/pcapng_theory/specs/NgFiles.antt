-- Need not be believed: helps proofs and other laws.
-- A pcapng file as a whole: sections one after the other, each a Section Header Block and the blocks behind it, and how the bytes end
-- (draft-ietf-opsawg-pcapng section 3; how they end is an own rule). It says what is there, and nothing of how it is read.
use Rattle.std.specs.Prelude.{◌≡◌, ℕ, ◌+◌, ◌^◌, ◌<◌, ◌≤◌, Bool, false, List, [], ◌∷◌, ◌++◌, length, All}
use Rattle.std.specs.List.{flat_map}
use Rattle.pcapng_theory.specs.NgBlocks.{SectionHeader, section_header_bytes, FitsSectionHeader, Block, block_bytes, interfaces_in, AllFit, Packet, packets_in}
use Rattle.pcapng_theory.specs.NgEndings.{Ending, EndsAs}

-- ---- sections

pub record Section : Type 0 where
  pub header : SectionHeader
  pub blocks : List Block

abbrev pub section_bytes : Section → List ℕ
section_bytes s = section_header_bytes s.header ++ flat_map (block_bytes s.header.little) s.blocks

pub record FitsSection (s : Section) : Type 0 where
  pub header : FitsSectionHeader s.header
  pub version : s.header.major ≡ 1
  pub blocks : AllFit s.header.little s.blocks

-- the interfaces of a packet are those of its own section
abbrev pub section_packets : Section → List Packet
section_packets s = packets_in s.blocks

abbrev pub section_block_count : Section → ℕ
section_block_count s = 1 + length s.blocks

-- ---- files

-- A file is read from its first section on. Blocks before that, of which the draft has none, have the highest byte first (own rule).
pub record File : Type 0 where
  pub before_sections : List Block
  pub sections : List Section
  pub rest : List ℕ
  pub ending : Ending

abbrev pub file_bytes : File → List ℕ
file_bytes f = flat_map (block_bytes false) f.before_sections ++ (flat_map section_bytes f.sections ++ f.rest)

-- the packets of all sections, in their order
abbrev pub file_packets : File → List Packet
file_packets f = packets_in f.before_sections ++ flat_map section_packets f.sections

-- the number of the block in which the bytes end, from 1 over all sections: those before it and 1
abbrev pub count_blocks : List Section → ℕ
count_blocks [] = 0
count_blocks (s ∷ more) = section_block_count s + count_blocks more

abbrev pub ending_block : File → ℕ
ending_block f = length f.before_sections + count_blocks f.sections + 1

-- the byte order and the interfaces of the section in which the bytes end

abbrev pub order_at_end : Bool → List Section → Bool
order_at_end little [] = little
order_at_end little (s ∷ more) = order_at_end s.header.little more

abbrev pub blocks_at_end : List Block → List Section → List Block
blocks_at_end blocks [] = blocks
blocks_at_end blocks (s ∷ more) = blocks_at_end s.blocks more

-- The bytes are those of the file, of which at most 65,536 packets are read.
pub record Spells (bytes : List ℕ) (f : File) : Type 0 where
  pub are_bytes : All (λ b. b < 2 ^ 8) bytes
  pub whole : bytes ≡ file_bytes f
  pub before_sections : AllFit false f.before_sections
  pub sections : All FitsSection f.sections
  pub packets : length (file_packets f) ≤ 65536
  pub ends : EndsAs (order_at_end false f.sections) (interfaces_in (blocks_at_end f.before_sections f.sections))
      (length (file_packets f)) f.rest f.ending

-- bytes end in this way
abbrev pub EndsAt : List ℕ → Ending → Type 0
EndsAt bytes ending = (f : File) × Spells bytes f × (f.ending ≡ ending)

-- and in the block of a number
abbrev pub EndsIn : List ℕ → Ending → ℕ → Type 0
EndsIn bytes ending block = (f : File) × Spells bytes f × (f.ending ≡ ending) × (ending_block f ≡ block)
