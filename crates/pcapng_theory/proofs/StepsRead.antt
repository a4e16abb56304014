-- One step of the reader, from a place in a section of the grammar: behind a header or behind a block.
use Rattle.std.proofs.Common.{◌≡◌, ℕ, zero, suc, ◌+◌, ◌^◌, ◌<◌, ◌≤◌, ◌==◌, nat_lt, Bool, cond, List, [], ◌∷◌, ◌++◌, length, take, drop, map, slice_get, get_or, Option, Some, refl, sym, ap, subst, ◌∙◌, arith, length-append, inl, inr}
use Rattle.std.specs.Option.{option_map}
use Rattle.std.proofs.lemmas.Bool.{cases_Bool, eq-eqb, ne_eqb}
use Rattle.std.proofs.lemmas.List.{append_assoc, append-nil, take_at, map-append}
use Rattle.std.proofs.lemmas.Option.{slice_get-map, slice_get-get_or, slice_get_within}
use Rattle.pcap_io.specs.declared.frame.Body.{Body}
use Rattle.pcap_io.specs.declared.frame.Body.TheVariants.{ShortFrame}
use Rattle.pcap_io.specs.declared.frame.Frame.{Frame}
use Rattle.pcap_io.specs.declared.numbers.TheConstants.{MAX_FRAMES}
use Rattle.pcap_io.specs.Numbers.{number_bytes}
use Rattle.pcapng_io.specs.declared.fault.NgFault.TheVariants as ng
use Rattle.pcapng_io.specs.declared.end.NgEnd.TheVariants as ends
use Rattle.pcapng_io.specs.Blocks as reader
use Rattle.pcapng_io.specs.Blocks.{link_in, kept, with_total, block_at, body_in, body_of}
use Rattle.pcapng_io.specs.NgReading.{NgPlace, Goes, Ends, step, with_front, reading}
use Rattle.pcapng_io.proofs.NgSteps.{step_front, reading_goes}
use Rattle.pcapng_theory.specs.NgBlocks.{bytes_of_block, FitsBlock, FitsInterfaceDescription, IsOther, Packet, section_header_body, section_header_bytes, SectionHeader, FitsSectionHeader, InterfaceDescription, interface_description_body, interface_description_block, IsPadded, EnhancedPacket, enhanced_packet_body, enhanced_packet_block, FitsEnhancedPacket, SimplePacket, simple_packet_body, simple_packet_block, FitsSimplePacket, captured_length, Block, Interface, Enhanced, Simple, Other, block_bytes, described_by, IsOfFirst, Fits, section_header_block, packets_by, packet_of}
use Rattle.pcapng_theory.proofs.BlockCases.{padded_length}
use Rattle.pcapng_theory.specs.NgFrames.{frame_of, frames_from}
use Rattle.pcapng_theory.proofs.FrontsRead.{Seen, block_first, block_behind}
use Rattle.pcapng_theory.proofs.BlocksRead.{seen, header_read, description_read, other_read}
use Rattle.pcapng_theory.proofs.PacketsRead.{enhanced_read, enhanced_28, simple_read, simple_12, held_same}
use Rattle.pcapng_theory.proofs.SameBlocks.{enhanced_small}
use Rattle.pcapng_theory.proofs.FilesBehind.{packet_count, no_description}

-- the place behind blocks: the byte order and the interfaces of their section, and how many blocks and packets there were
abbrev pub place : Bool → List InterfaceDescription → ℕ → ℕ → NgPlace
place little before b n = record { little = little; interfaces = map seen before; blocks = b; packets = n }

-- ---- a header

pub header_step : (little : Bool) (before : List InterfaceDescription) (b n : ℕ) (h : SectionHeader) (rest : List ℕ) → FitsSectionHeader h
    → h.major ≡ 1 → step (place little before b n) (section_header_bytes h ++ rest)
    ≡ Goes [] (place h.little [] (b + 1) n) (length (section_header_body h) + 12)
header_step little before b n h rest fits one =
    header_read h rest fits (place little before b n) one

pub header_reads : (little : Bool) (before : List InterfaceDescription) (b n : ℕ) (h : SectionHeader) (rest : List ℕ) → FitsSectionHeader h
    → h.major ≡ 1 → reading (place little before b n) (section_header_bytes h ++ rest) ≡ reading (place h.little [] (b + 1) n) rest
header_reads little before b n h rest fits one =
    reading_goes (place little before b n) (place h.little [] (b + 1) n) (section_header_bytes h ++ rest) []
    (length (section_header_body h) + 12) (header_step little before b n h rest fits one)
    ∙ ap (reading (place h.little [] (b + 1) n)) (block_behind h.little section_header_block (section_header_body h) rest fits.block)

-- ---- packets

get_front : (xs ys : List InterfaceDescription) (i : ℕ) → i < length xs → slice_get (xs ++ ys) i ≡ slice_get xs i
get_front [] ys i within = absurd (omega arith)
get_front (x ∷ xs) ys zero within = refl
get_front (x ∷ xs) ys (suc i) within = get_front xs ys i (omega arith)

pub captured_kept : (snap_len original : ℕ) → kept snap_len original ≡ captured_length snap_len original
captured_kept snap_len original = elim (cases_Bool (snap_len == 0)) [
  | inl a ↦ rw a refl
  | inr a ↦ rw a (omega arith)
]

pub padded_there : (packet_data padding options : List ℕ) → IsPadded packet_data padding
    → padded_length (length packet_data) ≤ length (packet_data ++ (padding ++ options))
padded_there packet_data padding options p =
    let a = length-append packet_data (padding ++ options) in
    let b = length-append padding options in
    let whole = p.whole in
    let few = p.few in
    omega (arith, a, b, whole, few)

abbrev grammar_packet : InterfaceDescription → ℕ → List ℕ → Packet
grammar_packet d original packet_data = record { link_type = d.link_type; original = original; packet_data = packet_data }

-- the frame of a packet whose data stands at its place in the block
frame_same : (d : InterfaceDescription) (start original number : ℕ) (packet_data behind block : List ℕ)
    → drop start block ≡ packet_data ++ behind
    → body_of (record { link = link_in d.link_type; start = start; captured = length packet_data; original = original }) block
    ≡ (frame_of number (grammar_packet d original packet_data)).body
unfolding body_of
frame_same d start original number packet_data behind block is =
    let bytes : take (length packet_data) (drop start block) ≡ packet_data =
    ap (take (length packet_data)) is ∙ take_at packet_data behind (length packet_data) refl in
    ap (λ (bs : List ℕ). cond (nat_lt (length packet_data) original) ShortFrame (body_in (link_in d.link_type) bs)) bytes
    ∙ ap (λ (body : Body). cond (nat_lt (length packet_data) original) ShortFrame body) (held_same d.link_type packet_data)

-- the reader finds a packet of this interface
abbrev FindsPacket : NgPlace → List ℕ → ℕ → InterfaceDescription → ℕ → ℕ → ℕ → Type 0
FindsPacket p bytes total d start captured original =
    block_at p.little p.interfaces bytes ≡ with_total total (reader.packet_of (Some (seen d)) start captured original)

-- behind it
abbrev next_place : NgPlace → NgPlace
next_place p = record { little = p.little; interfaces = p.interfaces; blocks = p.blocks + 1; packets = p.packets + 1 }

module _ (p : NgPlace) (bytes : List ℕ) (total : ℕ) (d : InterfaceDescription) (start captured original : ℕ)
    (found : FindsPacket p bytes total d start captured original) where
  packet_goes : (body : Body) → (p.packets ≡ MAX_FRAMES → ⊥)
      → body_of (record { link = link_in d.link_type; start = start; captured = captured; original = original }) (take total bytes) ≡ body
      → step p bytes ≡ Goes (record { number = p.packets + 1; body = body } ∷ []) (next_place p) total
  packet_goes body few is = step_front p bytes _ found ∙ rw (ne_eqb p.packets MAX_FRAMES few, is) refl

  pub packet_many : p.packets ≡ MAX_FRAMES → step p bytes ≡ Ends (ends.Faulty ng.FrameLimit)
  packet_many many = step_front p bytes _ found ∙ rw (eq-eqb p.packets MAX_FRAMES many) refl

-- ---- blocks

module _ (little : Bool) (before more : List InterfaceDescription) (b n : ℕ) (rest : List ℕ) where
  abbrev here : NgPlace
  here = place little before b n

  -- behind a block that describes no interface
  same_place : (d e : ℕ) → d ≡ e → (bytes : List ℕ) → bytes ≡ rest
      → reading (record { little = little; interfaces = map seen before; blocks = b + 1; packets = d }) bytes
      ≡ reading (place little (before ++ []) (b + 1) e) rest
  same_place d e count bytes is =
      ap (reading (place little before (b + 1) d)) is
      ∙ ap (λ (k : ℕ). reading (place little before (b + 1) k) rest) count
      ∙ ap (λ (ds : List InterfaceDescription). reading (place little ds (b + 1) e) rest) (sym (append-nil before))

  -- a packet of the interface of a number
  module _ (i : ℕ) (d : InterfaceDescription) (at : slice_get before i ≡ Some d) where
    seen_at : slice_get (map seen before) i ≡ Some (seen d)
    seen_at = slice_get-map seen before i ∙ ap (λ (o : Option InterfaceDescription). option_map seen o) at

    at_in_all : slice_get (before ++ more) i ≡ Some d
    at_in_all = get_front before more i (slice_get_within before i d at) ∙ at

    module _ (kind start original : ℕ) (packet_data behind body : List ℕ) (fits : FitsBlock kind body)
        (found : FindsPacket here (bytes_of_block little kind body ++ rest) (length body + 12) d start (length packet_data) original)
        (data_at : drop start (bytes_of_block little kind body) ≡ packet_data ++ behind) where
      abbrev bytes_at : List ℕ
      bytes_at = bytes_of_block little kind body ++ rest

      abbrev frame_here : Frame
      frame_here = frame_of (n + 1) (grammar_packet d original packet_data)

      frame_read : body_of (record {
        link = link_in d.link_type;
        start = start;
        captured = length packet_data;
        original = original;
      }) (take (length body + 12) bytes_at) ≡ frame_here.body
      frame_read =
          ap (λ (block : List ℕ). body_of (record {
            link = link_in d.link_type;
            start = start;
            captured = length packet_data;
            original = original;
          }) block) (block_first little kind body rest fits)
          ∙ frame_same d start original (n + 1) packet_data behind (bytes_of_block little kind body) data_at

      packet_reads : n < 65536 → (packets : List Packet) → packets ≡ grammar_packet d original packet_data ∷ []
          → reading here bytes_at ≡ with_front (frames_from (n + 1) packets) (reading (place little (before ++ []) (b + 1) (n + 1)) rest)
      packet_reads few packets are =
          reading_goes here (next_place here) bytes_at (frame_here ∷ []) (length body + 12)
          (packet_goes here bytes_at (length body + 12) d start (length packet_data) original found frame_here.body (λ is. omega arith)
          frame_read)
          ∙ ap (with_front (frame_here ∷ []))
          (same_place (n + 1) (n + 1) refl (drop (length body + 12) bytes_at) (block_behind little kind body rest fits))
          ∙ ap (λ (ps : List Packet). with_front (frames_from (n + 1) ps) (reading (place little (before ++ []) (b + 1) (n + 1)) rest)) (sym are)

  -- ---- an enhanced packet

  module _ (p : EnhancedPacket) (fits : FitsEnhancedPacket little p) (d : InterfaceDescription)
      (at : slice_get before p.interface ≡ Some d) where
    abbrev enhanced_behind : List ℕ
    enhanced_behind = p.packet_data ++ (p.padding ++ p.options)

    enhanced_fit : length p.packet_data < 2 ^ 32
    enhanced_fit = enhanced_small little p fits

    pub enhanced_found : FindsPacket here (block_bytes little (Enhanced p) ++ rest) (length (enhanced_packet_body little p) + 12) d
        28 (length p.packet_data) p.original
    enhanced_found =
        enhanced_read little p.interface p.upper p.lower (length p.packet_data) p.original enhanced_behind enhanced_fit fits.block
        (map seen before) rest (Some (seen d)) fits.interface fits.original
        (padded_there p.packet_data p.padding p.options fits.padding) (seen_at p.interface d at)

    enhanced_data : drop 28 (block_bytes little (Enhanced p))
        ≡ p.packet_data ++ ((p.padding ++ p.options) ++ number_bytes little 4 (length (enhanced_packet_body little p) + 12))
    enhanced_data =
        enhanced_28 little p.interface p.upper p.lower (length p.packet_data) p.original enhanced_behind enhanced_fit fits.block
        ∙ append_assoc p.packet_data (p.padding ++ p.options) (number_bytes little 4 (length (enhanced_packet_body little p) + 12))

    enhanced_reads : n < 65536 → reading here (block_bytes little (Enhanced p) ++ rest)
        ≡ with_front (frames_from (n + 1) (packets_by (before ++ more) (Enhanced p)))
        (reading (place little (before ++ []) (b + 1) (n + 1)) rest)
    enhanced_reads few =
        packet_reads p.interface d at enhanced_packet_block 28 p.original p.packet_data
        ((p.padding ++ p.options) ++ number_bytes little 4 (length (enhanced_packet_body little p) + 12))
        (enhanced_packet_body little p) fits.block enhanced_found enhanced_data few (packets_by (before ++ more) (Enhanced p))
        (ap (λ (o : Option InterfaceDescription). packet_of o p.original p.packet_data) (at_in_all p.interface d at))

  -- ---- a simple packet

  module _ (p : SimplePacket) (fits : FitsSimplePacket little p) (d : InterfaceDescription) (at : slice_get before 0 ≡ Some d)
      (captured : length p.packet_data ≡ captured_length d.snap_len p.original) where
    abbrev simple_behind : List ℕ
    simple_behind = p.packet_data ++ (p.padding ++ p.unread)

    simple_kept : kept d.snap_len p.original ≡ length p.packet_data
    simple_kept = captured_kept d.snap_len p.original ∙ sym captured

    simple_room : padded_length (kept d.snap_len p.original) ≤ length simple_behind
    simple_room =
        let there = padded_there p.packet_data p.padding p.unread fits.padding in
        subst (λ (k : ℕ). padded_length k ≤ length simple_behind) (sym simple_kept) there

    pub simple_found : FindsPacket here (block_bytes little (Simple p) ++ rest) (length (simple_packet_body little p) + 12) d
        12 (length p.packet_data) p.original
    simple_found =
        simple_read little p.original simple_behind fits.original fits.block (map seen before) rest (seen d) (seen_at 0 d at) simple_room
        ∙ ap (λ (k : ℕ). with_total (length (simple_packet_body little p) + 12)
        (reader.packet_of (Some (seen d)) 12 k p.original)) simple_kept

    simple_data : drop 12 (block_bytes little (Simple p))
        ≡ p.packet_data ++ ((p.padding ++ p.unread) ++ number_bytes little 4 (length (simple_packet_body little p) + 12))
    simple_data =
        simple_12 little p.original simple_behind fits.original fits.block
        ∙ append_assoc p.packet_data (p.padding ++ p.unread) (number_bytes little 4 (length (simple_packet_body little p) + 12))

    simple_reads : n < 65536 → reading here (block_bytes little (Simple p) ++ rest)
        ≡ with_front (frames_from (n + 1) (packets_by (before ++ more) (Simple p)))
        (reading (place little (before ++ []) (b + 1) (n + 1)) rest)
    simple_reads few =
        packet_reads 0 d at simple_packet_block 12 p.original p.packet_data
        ((p.padding ++ p.unread) ++ number_bytes little 4 (length (simple_packet_body little p) + 12))
        (simple_packet_body little p) fits.block simple_found simple_data few (packets_by (before ++ more) (Simple p))
        (ap (λ (o : Option InterfaceDescription). packet_of o p.original p.packet_data) (at_in_all 0 d at))

  -- ---- blocks without a packet

  description_reads : (d : InterfaceDescription) → FitsInterfaceDescription little d → reading here (block_bytes little (Interface d) ++ rest)
      ≡ with_front [] (reading (place little (before ++ (d ∷ [])) (b + 1) (n + 0)) rest)
  description_reads d fits =
      let bytes = block_bytes little (Interface d) ++ rest in
      let total = length (interface_description_body little d) + 12 in
      let none : n ≡ n + 0 = omega arith in
      reading_goes here _ bytes [] total (description_read little d fits here rest refl)
      ∙ ap (reading (record { little = little; interfaces = map seen before ++ (seen d ∷ []); blocks = b + 1; packets = n }))
      (block_behind little interface_description_block (interface_description_body little d) rest fits.block)
      ∙ ap (λ (is : List Seen). reading (record { little = little; interfaces = is; blocks = b + 1; packets = n }) rest)
      (sym (map-append seen before (d ∷ [])))
      ∙ ap (λ (k : ℕ). reading (place little (before ++ (d ∷ [])) (b + 1) k) rest) none

  other_reads : (kind : ℕ) (body : List ℕ) → IsOther kind → FitsBlock kind body → reading here (block_bytes little (Other kind body) ++ rest)
      ≡ with_front [] (reading (place little (before ++ []) (b + 1) (n + 0)) rest)
  other_reads kind body other fits =
      let bytes = block_bytes little (Other kind body) ++ rest in
      reading_goes here _ bytes [] (length body + 12) (other_read here kind body rest fits other)
      ∙ same_place n (n + 0) (omega arith) (drop (length body + 12) bytes) (block_behind little kind body rest fits)

pub first_of : (before : List InterfaceDescription) (p : SimplePacket) → IsOfFirst before p
    → (d : InterfaceDescription) × (slice_get before 0 ≡ Some d) × (length p.packet_data ≡ captured_length d.snap_len p.original)
first_of [] p none = absurd none
first_of (first ∷ others) p is = (first, refl, is)

-- any block that may stand there
pub block_reads : (little : Bool) (before more : List InterfaceDescription) (b n : ℕ) (rest : List ℕ) (block : Block)
    → Fits little before block → n + packet_count block ≤ 65536 → reading (place little before b n) (block_bytes little block ++ rest)
    ≡ with_front (frames_from (n + 1) (packets_by (before ++ more) block))
    (reading (place little (before ++ described_by block) (b + 1) (n + packet_count block)) rest)
block_reads little before more b n rest (Interface d) fits few = description_reads little before more b n rest d fits
block_reads little before more b n rest (Enhanced p) fits few =
    enhanced_reads little before more b n rest p fits.0 (get_or before p.interface no_description)
    (slice_get-get_or before p.interface no_description fits.1) (omega arith)
block_reads little before more b n rest (Simple p) fits few =
    let first = first_of before p fits.1 in
    simple_reads little before more b n rest p fits.0 first.0 first.1 first.2 (omega arith)
block_reads little before more b n rest (Other kind body) fits few = other_reads little before more b n rest kind body fits.0 fits.1

-- ---- a block is passed

abbrev pub GoesOn : NgPlace → List ℕ → Type 0
GoesOn p bytes = (frames : List Frame) × (next : NgPlace) × (total : ℕ) × (step p bytes ≡ Goes frames next total)

packet_goes_on : (p : NgPlace) (bytes : List ℕ) (total : ℕ) (d : InterfaceDescription) (start captured original : ℕ)
    → FindsPacket p bytes total d start captured original → (p.packets ≡ MAX_FRAMES → ⊥) → GoesOn p bytes
packet_goes_on p bytes total d start captured original found few =
    let body = body_of (record { link = link_in d.link_type; start = start; captured = captured; original = original }) (take total bytes) in (
      record { number = p.packets + 1; body = body } ∷ [],
      next_place p,
      total,
      packet_goes p bytes total d start captured original found body few refl,
    )

pub block_goes : (little : Bool) (before : List InterfaceDescription) (b n : ℕ) (rest : List ℕ) (block : Block)
    → Fits little before block → n + packet_count block ≤ 65536 → GoesOn (place little before b n) (block_bytes little block ++ rest)
block_goes little before b n rest (Interface d) fits few =
    ([], _, length (interface_description_body little d) + 12, description_read little d fits (place little before b n) rest refl)
block_goes little before b n rest (Enhanced p) fits few =
    let d = get_or before p.interface no_description in
    let at = slice_get-get_or before p.interface no_description fits.1 in
    packet_goes_on (place little before b n) (block_bytes little (Enhanced p) ++ rest) (length (enhanced_packet_body little p) + 12) d
    28 (length p.packet_data) p.original (enhanced_found little before [] b n rest p fits.0 d at) (λ many. omega arith)
block_goes little before b n rest (Simple p) fits few =
    let first = first_of before p fits.1 in
    packet_goes_on (place little before b n) (block_bytes little (Simple p) ++ rest) (length (simple_packet_body little p) + 12) first.0
    12 (length p.packet_data) p.original (simple_found little before [] b n rest p fits.0 first.0 first.1 first.2)
    (λ many. omega arith)
block_goes little before b n rest (Other kind body) fits few =
    ([], _, length body + 12, other_read (place little before b n) kind body rest fits.1 fits.0)
