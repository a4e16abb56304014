-- A file that is spelled is read as its frames.
use Rattle.std.proofs.Common.{◌≡◌, ℕ, ◌+◌, ◌^◌, ◌<◌, ◌≤◌, ◌==◌, Bool, true, false, List, [], ◌∷◌, ◌++◌, length, take, drop, Some, None, Ok, All, refl, sym, ap, ◌∙◌, arith, length-append}
use Rattle.std.specs.List.{flat_map}
use Rattle.std.proofs.lemmas.Bool.{le-ltb, le-leb, ne_eqb}
use Rattle.std.proofs.lemmas.List.{append_assoc, take_at, drop_at, drop-drop}
use Rattle.std.proofs.lemmas.List.Elements.{All-head, All-tail}
use Rattle.pcap_io.specs.declared.numbers.TheConstants.{MAX_FRAMES}
use Rattle.pcap_io.specs.Numbers.{number_of, number_bytes}
use Rattle.pcap_io.proofs.CaptureNumberLemmas.{number_of_bytes, number_bytes_length}
use Rattle.pcapng_io.specs.declared.ng_block.BlockContent.{BlockContent}
use Rattle.pcapng_io.specs.declared.ng_block.BlockContent.TheVariants as blocks
use Rattle.pcapng_io.specs.declared.ng_block.BlockPacket.{BlockPacket}
use Rattle.pcapng_io.specs.declared.ng_block.BlockType.{BlockType}
use Rattle.pcapng_io.specs.declared.ng_block.BlockType.TheVariants as types
use Rattle.pcapng_io.specs.declared.ng_block.Interface.{Interface}
use Rattle.pcapng_io.specs.declared.numbers.TheConstants.{SECTION, INTERFACE, ENHANCED_PACKET, ORDER_MAGIC, MAJOR, MIN_BLOCK, MIN_ENHANCED, ENHANCED_START}
use Rattle.pcapng_io.specs.Blocks.{begins_section, order_of, type_of, least_of, filled, link_in, section_in, interface_in, enhanced_in, held, block_at, body_of}
use Rattle.pcapng_io.specs.declared.end.NgEnd.TheVariants.{Whole}
use Rattle.pcapng_io.specs.NgReading.{NgPlace, Goes, NgReading, after, step_over, start, with_front, ended, reading, ng_capture_of}
use Rattle.pcapng_io.specs.Spelled.{block_bytes, FitsBody, NgHead, section_body, interface_body, FitsNgHead, NgSpelled, packet_body, FitsNgPacket, packet_bytes, frame_read, frames_read, ng_bytes}
use Rattle.pcapng_io.proofs.NgSteps.{step_front, reading_goes, reading_ends}
use Rattle.pcapng_io.proofs.SpelledBlocks.{whole_spelled, block_len, kind_at, body_behind, block_first, block_behind, spelled_whole, long_enough, body_at, offset}

-- ---- the section

section_begins : (little : Bool) (more : List ℕ) → number_of false 4 (number_bytes little 4 SECTION ++ more) ≡ SECTION
unfolding number_of number_bytes
section_begins true more = refl
section_begins false more = refl

order_spelled : (little : Bool) (bytes more : List ℕ) → drop 8 bytes ≡ number_bytes little 4 ORDER_MAGIC ++ more
    → order_of bytes ≡ Some little
unfolding order_of number_of number_bytes
order_spelled true bytes more is = rw is refl
order_spelled false bytes more is = rw is refl

module _ (h : NgHead) (rest : List ℕ) (fits : FitsNgHead h) where
  abbrev section_block : List ℕ
  section_block = block_bytes h.little SECTION (section_body h)

  section_order : order_of (section_block ++ rest) ≡ Some h.little
  section_order =
      let total = number_bytes h.little 4 (length (section_body h) + 12) in
      let versions = number_bytes h.little 2 MAJOR ++ (number_bytes h.little 2 h.minor ++ (h.section_length ++ h.section_options)) in
      order_spelled h.little (section_block ++ rest) (versions ++ (total ++ rest))
      (body_behind h.little SECTION (section_body h) rest fits.section
      ∙ append_assoc (number_bytes h.little 4 ORDER_MAGIC) versions (total ++ rest))

  section_version : number_of h.little 2 (drop 12 section_block) ≡ MAJOR
  section_version =
      let total = number_bytes h.little 4 (length (section_body h) + 12) in
      let later = number_bytes h.little 2 h.minor ++ (h.section_length ++ h.section_options) in
      let versions = number_bytes h.little 2 MAJOR ++ later in
      let small : MAJOR < 256 ^ 2 = omega arith in
      ap (number_of h.little 2) (offset h.little SECTION 4 (section_body h) fits.section
      ∙ ap (drop 4) (append_assoc (number_bytes h.little 4 ORDER_MAGIC) versions total)
      ∙ drop_at (number_bytes h.little 4 ORDER_MAGIC) (versions ++ total) 4 (number_bytes_length h.little 4 ORDER_MAGIC)
      ∙ append_assoc (number_bytes h.little 2 MAJOR) later total)
      ∙ number_of_bytes h.little 2 MAJOR (later ++ total) small

  section_held : held h.little [] types.Section section_block ≡ Ok (blocks.Section h.little)
  unfolding section_in
  section_held = rw section_version refl

  section_len : 16 ≤ length (section_body h)
  section_len =
      let a = number_bytes_length h.little 4 ORDER_MAGIC in
      let b = number_bytes_length h.little 2 MAJOR in
      let c = number_bytes_length h.little 2 h.minor in
      let d = fits.section_length in
      simp length-append (omega (arith, a, b, c, d))

  section_front : block_at false [] (section_block ++ rest)
      ≡ Ok (Some (record { total = length (section_body h) + 12; block = blocks.Section h.little }))
  unfolding block_at
  section_front =
      let long = long_enough h.little SECTION (section_body h) rest fits.section in
      let begins : number_of false 4 (section_block ++ rest) ≡ SECTION =
      ap (number_of false 4) (whole_spelled h.little SECTION (section_body h) rest fits.section) ∙ section_begins h.little _ in
      let some = section_len in
      rw (le-ltb (length (section_block ++ rest)) MIN_BLOCK long, begins, section_order)
      (spelled_whole h.little SECTION (section_body h) rest fits.section [] types.Section (blocks.Section h.little)
      (omega arith) section_held)

  section_read : reading start (section_block ++ rest) ≡ reading (after start (blocks.Section h.little)) rest
  section_read =
      reading_goes start (after start (blocks.Section h.little)) (section_block ++ rest) [] (length (section_body h) + 12)
      (step_front start (section_block ++ rest) _ section_front)
      ∙ ap (reading (after start (blocks.Section h.little))) (block_behind h.little SECTION (section_body h) rest fits.section)

-- ---- blocks of a section

-- a block of one of these types is no section
no_section : (little : Bool) (more : List ℕ) → (number_of false 4 (number_bytes little 4 INTERFACE ++ more) == SECTION) ≡ false
unfolding number_of number_bytes
no_section true more = refl
no_section false more = refl

no_section_packet : (little : Bool) (more : List ℕ)
    → (number_of false 4 (number_bytes little 4 ENHANCED_PACKET ++ more) == SECTION) ≡ false
unfolding number_of number_bytes
no_section_packet true more = refl
no_section_packet false more = refl

type_interface : type_of INTERFACE ≡ types.Interface
unfolding type_of
type_interface = refl

type_packet : type_of ENHANCED_PACKET ≡ types.EnhancedPacket
unfolding type_of
type_packet = refl

-- the front of bytes that begin with a block of a section
front_spelled : (little : Bool) (interfaces : List Interface) (kind : ℕ) (type : BlockType) (body rest : List ℕ) (block : BlockContent)
    → FitsBody body → kind < 2 ^ 32 → begins_section (block_bytes little kind body ++ rest) ≡ false → type_of kind ≡ type
    → least_of type ≤ length body + 12 → held little interfaces type (block_bytes little kind body) ≡ Ok block
    → block_at little interfaces (block_bytes little kind body ++ rest) ≡ Ok (Some (record { total = length body + 12; block = block }))
unfolding block_at
front_spelled little interfaces kind type body rest block fits below begins known enough holds =
    let long = long_enough little kind body rest fits in
    let number = kind_at little kind body rest fits below in
    rw (le-ltb (length (block_bytes little kind body ++ rest)) MIN_BLOCK long, begins, number, known)
    (spelled_whole little kind body rest fits interfaces type block enough holds)

-- ---- the interface

module _ (h : NgHead) (rest : List ℕ) (fits : FitsNgHead h) where
  abbrev interface_block : List ℕ
  interface_block = block_bytes h.little INTERFACE (interface_body h)

  abbrev described : Interface
  described = interface_in h.little interface_block

  described_link : described.link ≡ link_in h.link
  unfolding interface_in
  described_link =
      let total = number_bytes h.little 4 (length (interface_body h) + 12) in
      let later = number_bytes h.little 2 h.reserved ++ (number_bytes h.little 4 h.snaplen ++ h.interface_options) in
      ap (λ n. link_in n) (ap (number_of h.little 2) (body_at h.little INTERFACE (interface_body h) fits.interface
      ∙ append_assoc (number_bytes h.little 2 h.link) later total)
      ∙ number_of_bytes h.little 2 h.link (later ++ total) fits.link)

  interface_len : 8 ≤ length (interface_body h)
  interface_len =
      let a = number_bytes_length h.little 2 h.link in
      let b = number_bytes_length h.little 2 h.reserved in
      let c = number_bytes_length h.little 4 h.snaplen in
      simp length-append (omega (arith, a, b, c))

  abbrev before_packets : NgPlace
  before_packets = after (after start (blocks.Section h.little)) (blocks.Interface described)

  interface_read : reading (after start (blocks.Section h.little)) (interface_block ++ rest) ≡ reading before_packets rest
  interface_read =
      let place = after start (blocks.Section h.little) in
      let some = interface_len in
      let begins : begins_section (interface_block ++ rest) ≡ false =
      ap (λ bytes. number_of false 4 bytes == SECTION) (whole_spelled h.little INTERFACE (interface_body h) rest fits.interface)
      ∙ no_section h.little _ in
      let front = front_spelled h.little [] INTERFACE types.Interface (interface_body h) rest (blocks.Interface described) fits.interface
      (omega arith) begins type_interface (omega arith) refl in
      reading_goes place before_packets (interface_block ++ rest) [] (length (interface_body h) + 12)
      (step_front place (interface_block ++ rest) _ front)
      ∙ ap (reading before_packets) (block_behind h.little INTERFACE (interface_body h) rest fits.interface)

-- ---- the packets

module _ (little : Bool) (p : NgSpelled) (rest : List ℕ) (fits : FitsNgPacket little p) where
  abbrev packet_block : List ℕ
  packet_block = packet_bytes little p

  abbrev last_bytes : List ℕ
  last_bytes = number_bytes little 4 (length (packet_body little p) + 12)

  packet_parts : packet_body little p ++ last_bytes
      ≡ number_bytes little 4 0 ++ (number_bytes little 4 p.high ++ (number_bytes little 4 p.low ++
      (number_bytes little 4 (length p.captured) ++ (number_bytes little 4 p.original ++
      (p.captured ++ (p.filling ++ (p.options ++ last_bytes)))))))
  packet_parts = simp append_assoc refl

  from_time : drop 4 (packet_body little p ++ last_bytes)
      ≡ number_bytes little 4 p.high ++ (number_bytes little 4 p.low ++
      (number_bytes little 4 (length p.captured) ++ (number_bytes little 4 p.original ++
      (p.captured ++ (p.filling ++ (p.options ++ last_bytes))))))
  from_time = ap (drop 4) packet_parts ∙ drop_at (number_bytes little 4 0) _ 4 (number_bytes_length little 4 0)

  from_low : drop 8 (packet_body little p ++ last_bytes)
      ≡ number_bytes little 4 p.low ++
      (number_bytes little 4 (length p.captured) ++ (number_bytes little 4 p.original ++
      (p.captured ++ (p.filling ++ (p.options ++ last_bytes)))))
  from_low =
      sym (drop-drop 4 4 (packet_body little p ++ last_bytes)) ∙ ap (drop 4) from_time
      ∙ drop_at (number_bytes little 4 p.high) _ 4 (number_bytes_length little 4 p.high)

  from_captured : drop 12 (packet_body little p ++ last_bytes)
      ≡ number_bytes little 4 (length p.captured) ++ (number_bytes little 4 p.original ++
      (p.captured ++ (p.filling ++ (p.options ++ last_bytes))))
  from_captured =
      sym (drop-drop 4 8 (packet_body little p ++ last_bytes)) ∙ ap (drop 4) from_low
      ∙ drop_at (number_bytes little 4 p.low) _ 4 (number_bytes_length little 4 p.low)

  from_original : drop 16 (packet_body little p ++ last_bytes)
      ≡ number_bytes little 4 p.original ++ (p.captured ++ (p.filling ++ (p.options ++ last_bytes)))
  from_original =
      sym (drop-drop 4 12 (packet_body little p ++ last_bytes)) ∙ ap (drop 4) from_captured
      ∙ drop_at (number_bytes little 4 (length p.captured)) _ 4 (number_bytes_length little 4 (length p.captured))

  from_bytes : drop 20 (packet_body little p ++ last_bytes) ≡ p.captured ++ (p.filling ++ (p.options ++ last_bytes))
  from_bytes =
      sym (drop-drop 4 16 (packet_body little p ++ last_bytes)) ∙ ap (drop 4) from_original
      ∙ drop_at (number_bytes little 4 p.original) _ 4 (number_bytes_length little 4 p.original)

  body_len : length (packet_body little p) ≡ 20 + (length p.captured + (length p.filling + length p.options))
  body_len =
      let a = number_bytes_length little 4 0 in
      let b = number_bytes_length little 4 p.high in
      let c = number_bytes_length little 4 p.low in
      let d = number_bytes_length little 4 (length p.captured) in
      let e = number_bytes_length little 4 p.original in
      simp length-append (omega (arith, a, b, c, d, e))

  interface_at : number_of little 4 (drop 8 packet_block) ≡ 0
  interface_at =
      let small : 0 < 256 ^ 4 = omega arith in
      ap (number_of little 4) (body_at little ENHANCED_PACKET (packet_body little p) fits.body ∙ packet_parts)
      ∙ number_of_bytes little 4 0 _ small

  captured_at : number_of little 4 (drop 20 packet_block) ≡ length p.captured
  captured_at =
      let len = body_len in
      let short = fits.body.short in
      let small : length p.captured < 256 ^ 4 = omega (arith, len, short) in
      ap (number_of little 4) (offset little ENHANCED_PACKET 12 (packet_body little p) fits.body ∙ from_captured)
      ∙ number_of_bytes little 4 (length p.captured) _ small

  original_at : number_of little 4 (drop 24 packet_block) ≡ p.original
  original_at =
      ap (number_of little 4) (offset little ENHANCED_PACKET 16 (packet_body little p) fits.body ∙ from_original)
      ∙ number_of_bytes little 4 p.original _ fits.original

  bytes_at : take (length p.captured) (drop ENHANCED_START packet_block) ≡ p.captured
  bytes_at =
      ap (take (length p.captured)) (offset little ENHANCED_PACKET 20 (packet_body little p) fits.body ∙ from_bytes)
      ∙ take_at p.captured _ (length p.captured) refl

  abbrev made : Interface → BlockPacket
  made i = record { link = i.link; start = ENHANCED_START; captured = length p.captured; original = p.original }

  packet_held : (i : Interface) → held little (i ∷ []) types.EnhancedPacket packet_block ≡ Ok (blocks.Packet (made i))
  unfolding enhanced_in
  packet_held i =
      let all = block_len little ENHANCED_PACKET (packet_body little p) rest fits.body in
      let len = body_len in
      let fill = fits.filling in
      let room : MIN_ENHANCED + filled (length p.captured) ≤ length packet_block = omega (arith, all, len, fill) in
      rw (captured_at, le-leb (MIN_ENHANCED + filled (length p.captured)) (length packet_block) room, interface_at, original_at) refl

  packet_begins : begins_section (packet_block ++ rest) ≡ false
  packet_begins =
      ap (λ bytes. number_of false 4 bytes == SECTION) (whole_spelled little ENHANCED_PACKET (packet_body little p) rest fits.body)
      ∙ no_section_packet little _

  packet_front : (i : Interface) → block_at little (i ∷ []) (packet_block ++ rest)
      ≡ Ok (Some (record { total = length (packet_body little p) + 12; block = blocks.Packet (made i) }))
  packet_front i =
      let len = body_len in
      front_spelled little (i ∷ []) ENHANCED_PACKET types.EnhancedPacket (packet_body little p) rest (blocks.Packet (made i)) fits.body
      (omega arith) packet_begins type_packet (omega (arith, len)) (packet_held i)

  packet_body_of : (i : Interface) → body_of (made i) (take (length (packet_body little p) + 12) (packet_block ++ rest))
      ≡ (frame_read i.link 0 p).body
  unfolding body_of
  packet_body_of i = rw (block_first little ENHANCED_PACKET (packet_body little p) rest fits.body, bytes_at) refl

  abbrev place_at : Interface → ℕ → ℕ → NgPlace
  place_at i b n = record { little = little; interfaces = i ∷ []; blocks = b; packets = n }

  packet_read : (i : Interface) (b n : ℕ) → (n ≡ MAX_FRAMES → ⊥) → reading (place_at i b n) (packet_block ++ rest)
      ≡ with_front (frame_read i.link (n + 1) p ∷ []) (reading (place_at i (b + 1) (n + 1)) rest)
  packet_read i b n few =
      let total = length (packet_body little p) + 12 in
      let bytes = packet_block ++ rest in
      let over : step_over (place_at i b n) bytes total (blocks.Packet (made i))
      ≡ Goes (frame_read i.link (n + 1) p ∷ []) (place_at i (b + 1) (n + 1)) total =
      rw (ne_eqb n MAX_FRAMES few, packet_body_of i) refl in
      reading_goes (place_at i b n) (place_at i (b + 1) (n + 1)) bytes (frame_read i.link (n + 1) p ∷ []) total
      (step_front (place_at i b n) bytes _ (packet_front i) ∙ over)
      ∙ ap (λ left. with_front (frame_read i.link (n + 1) p ∷ []) (reading (place_at i (b + 1) (n + 1)) left))
      (block_behind little ENHANCED_PACKET (packet_body little p) rest fits.body)

-- nothing is left
nothing_at : (p : NgPlace) → block_at p.little p.interfaces [] ≡ Ok None
unfolding block_at
nothing_at p = refl

nothing_read : (p : NgPlace) → reading p [] ≡ ended Whole
nothing_read p = reading_ends p [] Whole (step_front p [] (Ok None) (nothing_at p))

packets_read : (little : Bool) (i : Interface) (b n : ℕ) (ps : List NgSpelled) → All (FitsNgPacket little) ps → n + length ps ≤ MAX_FRAMES
    → reading (record { little = little; interfaces = i ∷ []; blocks = b; packets = n }) (flat_map (packet_bytes little) ps)
    ≡ record { frames = frames_read i.link (n + 1) ps; end = Whole }
packets_read little i b n [] fit within = nothing_read _
packets_read little i b n (p ∷ ps) fit within =
    packet_read little p (flat_map (packet_bytes little) ps) (All-head (FitsNgPacket little) p ps fit) i b n (λ many. omega arith)
    ∙ ap (with_front (frame_read i.link (n + 1) p ∷ []))
    (packets_read little i (b + 1) (n + 1) ps (All-tail (FitsNgPacket little) p ps fit) (omega arith))

pub spelled_read : (h : NgHead) (ps : List NgSpelled) → FitsNgHead h → All (FitsNgPacket h.little) ps → length ps ≤ MAX_FRAMES
    → ng_capture_of (ng_bytes h ps) ≡ record { frames = frames_read (link_in h.link) 1 ps; end = Whole }
spelled_read h ps fits fit within =
    let packets = flat_map (packet_bytes h.little) ps in
    let interface = block_bytes h.little INTERFACE (interface_body h) in
    ap (reading start) (append_assoc (block_bytes h.little SECTION (section_body h)) interface packets)
    ∙ section_read h (interface ++ packets) fits
    ∙ interface_read h packets fits
    ∙ packets_read h.little (described h packets fits) (0 + 1 + 1) 0 ps fit (omega arith)
    ∙ ap (λ link. let made : NgReading = record { frames = frames_read link 1 ps; end = Whole } in made) (described_link h packets fits)
