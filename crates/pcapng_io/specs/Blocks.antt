-- The blocks of a pcapng file (draft-ietf-opsawg-pcapng sections 3.1 and 4): type, total length, body, and the total length
-- once more, 4 bytes each but the body. Numbers have the byte order of their section; offsets count from the block's first byte.
use Rattle.std.specs.Prelude.{ℕ, ◌+◌, ◌-◌, ◌*◌, ◌/◌, ◌%◌, min, ◌==◌, ◌&&◌, nat_lt, nat_le, if◌then◌else◌, Bool, true, false, List, [], length, take, drop, slice_get, Option, Some, None, Result, Ok, Err}
use Rattle.pcap_io.specs.declared.fault.CaptureFault.{CaptureFault}
use Rattle.pcap_io.specs.declared.frame.Body.{Body}
use Rattle.pcap_io.specs.declared.frame.Body.TheVariants.{ShortFrame, NotIp}
use Rattle.pcap_io.specs.declared.capture_head.LinkType.{LinkType}
use Rattle.pcap_io.specs.Head.{link_of}
use Rattle.pcap_io.specs.Numbers.{number_of}
use Rattle.pcap_io.specs.Frames.{packet_in}
use Rattle.pcapng_io.specs.declared.ng_block.BlockContent.{BlockContent}
use Rattle.pcapng_io.specs.declared.ng_block.BlockContent.TheVariants as blocks
use Rattle.pcapng_io.specs.declared.ng_block.BlockType.{BlockType}
use Rattle.pcapng_io.specs.declared.ng_block.BlockType.TheVariants as types
use Rattle.pcapng_io.specs.declared.ng_block.Interface.{Interface}
use Rattle.pcapng_io.specs.declared.ng_block.BlockPacket.{BlockPacket}
use Rattle.pcapng_io.specs.declared.ng_block.WholeBlock.{WholeBlock}
use Rattle.pcapng_io.specs.declared.fault.BlockFault.{BlockFault}
use Rattle.pcapng_io.specs.declared.fault.BlockFault.TheVariants as faults
use Rattle.pcapng_io.specs.declared.numbers.TheConstants.{SECTION, INTERFACE, OLD_PACKET, SIMPLE_PACKET, ENHANCED_PACKET, ORDER_MAGIC, MAJOR, MIN_BLOCK, MIN_SECTION, MIN_INTERFACE, MIN_SIMPLE, MIN_ENHANCED, SIMPLE_START, ENHANCED_START}

-- ---- the first 12 bytes

-- a section begins; the bytes of its type are the same in either order
abbrev pub begins_section : List ℕ → Bool
begins_section bytes = number_of false 4 bytes == SECTION

-- the order in which the magic of a section, after its total length, reads 1a2b3c4d: `true` is the lowest byte first
unfoldable pub order_of : List ℕ → Option Bool
order_of bytes =
    if number_of true 4 (drop 8 bytes) == ORDER_MAGIC then Some true
    else if number_of false 4 (drop 8 bytes) == ORDER_MAGIC then Some false
    else None

unfoldable pub type_of : ℕ → BlockType
type_of n =
    if n == SECTION then types.Section
    else if n == INTERFACE then types.Interface
    else if n == ENHANCED_PACKET then types.EnhancedPacket
    else if n == SIMPLE_PACKET then types.SimplePacket
    else if n == OLD_PACKET then types.OldPacket
    else types.Other

abbrev pub total_at : Bool → List ℕ → ℕ
total_at little bytes = number_of little 4 (drop 4 bytes)

-- ---- a whole block

-- the fewest bytes of a block of a type
abbrev pub least_of : BlockType → ℕ
least_of types.Section = MIN_SECTION
least_of types.Interface = MIN_INTERFACE
least_of types.EnhancedPacket = MIN_ENHANCED
least_of types.SimplePacket = MIN_SIMPLE
least_of types.OldPacket = MIN_BLOCK
least_of types.Other = MIN_BLOCK

-- a multiple of 4, no less than the least, and the same at the end
unfoldable pub has_form : Bool → ℕ → List ℕ → Bool
has_form little least block =
    (length block % 4 == 0) && nat_le least (length block) && (number_of little 4 (drop (length block - 4) block) == length block)

-- bytes filled up to a multiple of 4
abbrev pub filled : ℕ → ℕ
filled n = (n + 3) / 4 * 4

abbrev pub known_link : Result LinkType CaptureFault → Option LinkType
known_link (Ok link) = Some link
known_link (Err fault) = None

-- the link types of classic captures; none where it is another
abbrev pub link_in : ℕ → Option LinkType
link_in n = known_link (link_of n)

-- a section (section 4.1): its major version is 1; the minor version, the length of the section and options are not looked at
unfoldable pub section_in : Bool → List ℕ → Result BlockContent BlockFault
section_in little block =
    if number_of little 2 (drop 12 block) == MAJOR then Ok (blocks.Section little) else Err faults.Version

-- an interface (section 4.2)
unfoldable pub interface_in : Bool → List ℕ → Interface
interface_in little block =
    record { link = link_in (number_of little 2 (drop 8 block)); snaplen = number_of little 4 (drop 12 block) }

-- a packet of an interface that is described
abbrev pub packet_of : Option Interface → ℕ → ℕ → ℕ → Result BlockContent BlockFault
packet_of (Some i) start captured original =
    Ok (blocks.Packet (record { link = i.link; start = start; captured = captured; original = original }))
packet_of None start captured original = Err faults.Interface

-- an enhanced packet (section 4.3): interface, time (8 bytes), captured and original length, the bytes, options
unfoldable pub enhanced_in : Bool → List Interface → List ℕ → Result BlockContent BlockFault
enhanced_in little interfaces block =
    if nat_le (MIN_ENHANCED + filled (number_of little 4 (drop 20 block))) (length block)
    then packet_of (slice_get interfaces (number_of little 4 (drop 8 block))) ENHANCED_START
    (number_of little 4 (drop 20 block)) (number_of little 4 (drop 24 block))
    else Err faults.Form

-- how many bytes of a packet an interface keeps; a snaplen of 0 keeps all
abbrev pub kept : ℕ → ℕ → ℕ
kept snaplen original = if snaplen == 0 then original else min original snaplen

-- a simple packet (section 4.4): of interface 0; original length, the bytes
unfoldable pub simple_of : Option Interface → ℕ → List ℕ → Result BlockContent BlockFault
simple_of (Some i) original block =
    if nat_le (MIN_SIMPLE + filled (kept i.snaplen original)) (length block)
    then packet_of (Some i) SIMPLE_START (kept i.snaplen original) original
    else Err faults.Form
simple_of None original block = Err faults.Interface

-- what a block of good form holds; a type that is not known is skipped
abbrev pub held : Bool → List Interface → BlockType → List ℕ → Result BlockContent BlockFault
held little interfaces types.Section block = section_in little block
held little interfaces types.Interface block = Ok (blocks.Interface (interface_in little block))
held little interfaces types.EnhancedPacket block = enhanced_in little interfaces block
held little interfaces types.SimplePacket block = simple_of (slice_get interfaces 0) (number_of little 4 (drop 8 block)) block
held little interfaces types.OldPacket block = Err faults.OldBlock
held little interfaces types.Other block = Ok blocks.Skipped

-- ---- the block at the front of bytes

abbrev pub with_total : ℕ → Result BlockContent BlockFault → Result (Option WholeBlock) BlockFault
with_total total (Ok block) = Ok (Some (record { total = total; block = block }))
with_total total (Err fault) = Err fault

unfoldable pub formed : Bool → List Interface → BlockType → List ℕ → Result (Option WholeBlock) BlockFault
formed little interfaces kind block =
    if has_form little (least_of kind) block then with_total (length block) (held little interfaces kind block) else Err faults.Form

-- none where fewer bytes are there than the block has
unfoldable pub whole_at : Bool → List Interface → BlockType → List ℕ → Result (Option WholeBlock) BlockFault
whole_at little interfaces kind bytes =
    if nat_lt (length bytes) (total_at little bytes) then Ok None
    else formed little interfaces kind (take (total_at little bytes) bytes)

-- a section has the order of its own magic, and no interfaces before it
abbrev pub section_at : Option Bool → List ℕ → Result (Option WholeBlock) BlockFault
section_at (Some little) bytes = whole_at little [] types.Section bytes
section_at None bytes = Err faults.Magic

-- The block at the front, in a section of this order and with these interfaces so far; none where it is cut.
unfoldable pub block_at : Bool → List Interface → List ℕ → Result (Option WholeBlock) BlockFault
block_at little interfaces bytes =
    if nat_lt (length bytes) MIN_BLOCK then Ok None
    else if begins_section bytes then section_at (order_of bytes) bytes
    else whole_at little interfaces (type_of (number_of little 4 bytes)) bytes

-- ---- the packet in a block

abbrev pub body_in : Option LinkType → List ℕ → Body
body_in (Some link) captured = packet_in link captured
body_in None captured = NotIp

-- a packet of which bytes were left out is not looked into, and one of another link type is none of IP
unfoldable pub body_of : BlockPacket → List ℕ → Body
body_of p block =
    if nat_lt p.captured p.original then ShortFrame else body_in p.link (take p.captured (drop p.start block))
