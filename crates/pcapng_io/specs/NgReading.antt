-- A pcapng file as a whole: its blocks one after the other, the frames in them, and how it ends (draft-ietf-opsawg-pcapng sections 3 and
-- 4; how it ends is an own rule).
use Rattle.std.specs.Prelude.{ℕ, zero, suc, ◌+◌, ◌==◌, if◌then◌else◌, Bool, false, List, [], ◌∷◌, ◌++◌, length, take, drop, Option, Some, None, Result, Ok, Err}
use Rattle.pcap_io.specs.declared.frame.Frame.{Frame}
use Rattle.pcap_io.specs.declared.numbers.TheConstants.{MAX_FRAMES}
use Rattle.pcapng_io.specs.declared.ng_block.BlockContent.{BlockContent}
use Rattle.pcapng_io.specs.declared.ng_block.BlockContent.TheVariants as blocks
use Rattle.pcapng_io.specs.declared.ng_block.Interface.{Interface}
use Rattle.pcapng_io.specs.declared.ng_block.BlockPacket.{BlockPacket}
use Rattle.pcapng_io.specs.declared.ng_block.WholeBlock.{WholeBlock}
use Rattle.pcapng_io.specs.declared.end.NgEnd.{NgEnd}
use Rattle.pcapng_io.specs.declared.end.NgEnd.TheVariants.{Whole, CutIn, Faulty}
use Rattle.pcapng_io.specs.declared.fault.BlockFault.{BlockFault}
use Rattle.pcapng_io.specs.declared.fault.BlockFault.TheVariants as faults
use Rattle.pcapng_io.specs.declared.fault.NgFault.{NgFault}
use Rattle.pcapng_io.specs.declared.fault.NgFault.TheVariants as ng
use Rattle.pcapng_io.specs.Blocks.{block_at, body_of}

-- what the blocks so far say to those after them: the byte order and the interfaces of their section, how many blocks there
-- were in all, and how many packets
pub record NgPlace : Type 0 where
  pub little : Bool
  pub interfaces : List Interface
  pub blocks : ℕ
  pub packets : ℕ

-- before the first block, which is a section and brings its own order
abbrev pub start : NgPlace
start = record { little = false; interfaces = []; blocks = 0; packets = 0 }

-- the fault of the block of a number
abbrev pub fault_in : ℕ → BlockFault → NgFault
fault_in n faults.Magic = ng.NgMagic n
fault_in n faults.Form = ng.NgBlock n
fault_in n faults.Version = ng.NgVersion n
fault_in n faults.OldBlock = ng.NgOldBlock n
fault_in n faults.Interface = ng.NgInterface n

-- after a block: a section begins with no interfaces, and an interface is numbered after those before it
abbrev pub after : NgPlace → BlockContent → NgPlace
after p (blocks.Section little) = record { little = little; interfaces = []; blocks = p.blocks + 1; packets = p.packets }
after p (blocks.Interface i) =
    record { little = p.little; interfaces = p.interfaces ++ i ∷ []; blocks = p.blocks + 1; packets = p.packets }
after p (blocks.Packet packet) =
    record { little = p.little; interfaces = p.interfaces; blocks = p.blocks + 1; packets = p.packets + 1 }
after p blocks.Skipped = record { little = p.little; interfaces = p.interfaces; blocks = p.blocks + 1; packets = p.packets }

-- one block is passed, with the frames in it, or the file ends
pub data NgStep : Type 0 where
  Ends : NgEnd → NgStep
  Goes : List Frame → NgPlace → ℕ → NgStep

-- the next packet's frame; packets are numbered from 1 over all sections
abbrev pub frame_of : NgPlace → BlockPacket → List ℕ → Frame
frame_of p packet block = record { number = p.packets + 1; body = body_of packet block }

-- what a block of so many bytes at the front of bytes comes to: no packet comes after so many
abbrev pub step_over : NgPlace → List ℕ → ℕ → BlockContent → NgStep
step_over p bytes total (blocks.Section little) = Goes [] (after p (blocks.Section little)) total
step_over p bytes total (blocks.Interface i) = Goes [] (after p (blocks.Interface i)) total
step_over p bytes total (blocks.Packet packet) =
    if p.packets == MAX_FRAMES then Ends (Faulty ng.FrameLimit)
    else Goes (frame_of p packet (take total bytes) ∷ []) (after p (blocks.Packet packet)) total
step_over p bytes total blocks.Skipped = Goes [] (after p blocks.Skipped) total

-- how bytes end that begin with no whole block
abbrev pub end_at : NgPlace → List ℕ → NgEnd
end_at p bytes = if length bytes == 0 then Whole else CutIn (p.blocks + 1)

abbrev pub step_with : NgPlace → List ℕ → Result (Option WholeBlock) BlockFault → NgStep
step_with p bytes (Ok (Some whole)) = step_over p bytes whole.total whole.block
step_with p bytes (Ok None) = Ends (end_at p bytes)
step_with p bytes (Err fault) = Ends (Faulty (fault_in (p.blocks + 1) fault))

-- the step at the front of bytes
unfoldable pub step : NgPlace → List ℕ → NgStep
step p bytes = step_with p bytes (block_at p.little p.interfaces bytes)

-- the frames of a file, and its end
pub record NgReading : Type 0 where
  pub frames : List Frame
  pub end : NgEnd

abbrev pub with_front : List Frame → NgReading → NgReading
with_front front r = record { frames = front ++ r.frames; end = r.end }

abbrev pub ended : NgEnd → NgReading
ended end = record { frames = []; end = end }

-- what bytes come to, at most so many blocks of them
unfoldable pub blocks_of : ℕ → NgPlace → List ℕ → NgReading
blocks_of zero p bytes = ended (end_at p bytes)
blocks_of (suc most) p bytes =
    elim (step p bytes) [
      | Ends end ↦ ended end
      | Goes frames next total ↦ with_front frames (blocks_of most next (drop total bytes))
    ]

-- what bytes come to: a block has at least 12 of them, so that there are fewer blocks than bytes
unfoldable pub reading : NgPlace → List ℕ → NgReading
reading p bytes = blocks_of (suc (length bytes)) p bytes

-- the frames and the end of a pcapng file
abbrev pub ng_capture_of : List ℕ → NgReading
ng_capture_of bytes = reading start bytes

-- how a file ends whose first block is cut or faulty: none where that block is whole
abbrev pub start_end : NgStep → Option NgEnd
start_end (Ends end) = Some end
start_end (Goes frames next total) = None

abbrev pub end_at_start : List ℕ → Option NgEnd
end_at_start bytes = start_end (step start bytes)
