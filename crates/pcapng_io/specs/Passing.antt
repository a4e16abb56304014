-- Need not be believed: helps proofs and other laws.
-- What the marks of a reader in its input stand for, and what passing blocks leaves of them.
use Rattle.std.specs.Prelude.{◌≡◌, ℕ, ◌+◌, ◌*◌, ◌<◌, ◌≤◌, ◌^◌, List, [], ◌∷◌, ◌++◌, length, drop, Option, Some, None, Result, Ok, Err}
use Rattle.pcap_io.specs.declared.frame.Frame.{Frame}
use Rattle.pcap_io.specs.declared.numbers.TheConstants.{MAX_FRAMES}
use Rattle.pcapng_io.specs.declared.ng_block.BlockContent.TheVariants as blocks
use Rattle.pcapng_io.specs.declared.ng_block.Interface.{Interface}
use Rattle.pcapng_io.specs.declared.ng_block.WholeBlock.{WholeBlock}
use Rattle.pcapng_io.specs.declared.fault.NgFault.{NgFault}
use Rattle.pcapng_io.specs.declared.cursor.NgCursor.{NgCursor}
use Rattle.pcapng_io.specs.declared.cursor.PacketBlock.{PacketBlock}
use Rattle.pcapng_io.specs.declared.numbers.TheConstants.{MAX_INPUT}
use Rattle.pcapng_io.specs.Blocks.{block_at}
use Rattle.pcapng_io.specs.declared.end.NgEnd.TheVariants.{Faulty}
use Rattle.pcapng_io.specs.NgReading.{NgPlace, Ends, end_at, after, step, with_front, reading}
use Rattle.pcapng_io.specs.Taking.{ByFault}

-- the interfaces of the section are the last of all that were described
abbrev pub place_of : NgCursor → List Interface → NgPlace
place_of m described = record { little = m.little; interfaces = drop m.first described; blocks = m.blocks; packets = m.packets }

-- a cursor lies within the input and the interfaces, and each block before it had at least 12 bytes
pub record Lies (m : NgCursor) (described : List Interface) (input : List ℕ) : Type 0 where
  pub at : m.at ≤ length input
  pub first : m.first ≤ length described
  pub most : length input ≤ MAX_INPUT
  pub blocks : 12 * m.blocks + length input ≤ MAX_INPUT + m.at
  pub packets : m.packets ≤ MAX_FRAMES

-- the counts of a cursor can take one more block
pub record IsRoom (m : NgCursor) (described : List Interface) (whole : WholeBlock) : Type 0 where
  pub at : m.at + whole.total < 2 ^ 64
  pub first : m.first ≤ length described
  pub blocks : m.blocks + 1 < 2 ^ 32
  pub packets : m.packets ≤ MAX_FRAMES

-- One block was passed.
pub record Passes (old new : NgCursor) (olds news : List Interface) (whole : WholeBlock) : Type 0 where
  pub at : new.at ≡ old.at + whole.total
  pub first : new.first ≤ length news
  pub place : place_of new news ≡ after (place_of old olds) whole.block

-- Blocks were passed from one cursor to another, with these frames in them.
pub record BlocksPassed (input : List ℕ) (old new : NgCursor) (olds news : List Interface) (frames : List Frame) : Type 0 where
  pub lies : Lies new news input
  pub blocks : 12 * new.blocks + old.at ≤ 12 * old.blocks + new.at
  pub packets : new.packets ≡ old.packets + length frames
  pub same : (more : List ℕ) → reading (place_of old olds) (drop old.at input ++ more)
      ≡ with_front frames (reading (place_of new news) (drop new.at input ++ more))

-- where no whole block stands at a cursor
abbrev pub IsEnd : List ℕ → NgCursor → List Interface → Type 0
IsEnd input m described = step (place_of m described) (drop m.at input) ≡ Ends (end_at (place_of m described) (drop m.at input))

-- where a faulty block stands at a cursor
abbrev pub IsFault : List ℕ → NgCursor → List Interface → NgFault → Type 0
IsFault input m described fault = step (place_of m described) (drop m.at input) ≡ Ends (Faulty fault)

-- where a packet's block stands at a cursor
abbrev pub IsPacket : List ℕ → NgCursor → List Interface → PacketBlock → Type 0
IsPacket input m described found =
    block_at m.little (drop m.first described) (drop m.at input)
    ≡ Ok (Some (record { total = found.total; block = blocks.Packet found.packet }))

-- What passing blocks up to the next packet gives.
abbrev pub PassesTo : List ℕ → NgCursor → NgCursor → List Interface → List Interface → Result (Option PacketBlock) NgFault → Type 0
PassesTo input old new olds news (Ok (Some found)) = BlocksPassed input old new olds news [] × IsPacket input new news found
PassesTo input old new olds news (Ok None) = BlocksPassed input old new olds news [] × IsEnd input new news
PassesTo input old new olds news (Err fault) =
    ByFault fault (Unit {0}) (BlocksPassed input old new olds news [] × IsFault input new news fault)

-- What passing blocks up to the next packet and its block gives.
abbrev pub TakesOver : List ℕ → NgCursor → NgCursor → List Interface → List Interface → Result (Option Frame) NgFault → Type 0
TakesOver input old new olds news (Ok (Some frame)) = BlocksPassed input old new olds news (frame ∷ [])
TakesOver input old new olds news (Ok None) = BlocksPassed input old new olds news [] × IsEnd input new news
TakesOver input old new olds news (Err fault) =
    ByFault fault (Unit {0}) (BlocksPassed input old new olds news [] × IsFault input new news fault)
