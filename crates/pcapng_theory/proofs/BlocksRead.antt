-- The reader at a section's header, or at a block without a packet, that the grammar spells.
use Rattle.std.proofs.Common.{◌≡◌, ℕ, ◌+◌, ◌≤◌, Bool, List, [], ◌∷◌, ◌++◌, length, take, drop, refl, sym, ap, ◌∙◌, arith, length-append}
use Rattle.std.proofs.lemmas.Bool.{ne_eqb}
use Rattle.std.proofs.lemmas.List.{append_assoc, take_at, drop_at, drop-drop}
use Rattle.pcap_io.specs.Numbers.{number_of, number_bytes}
use Rattle.pcap_io.proofs.CaptureNumberLemmas.{number_of_bytes, number_bytes_length}
use Rattle.pcapng_io.specs.declared.end.NgEnd.TheVariants as ends
use Rattle.pcapng_io.specs.declared.fault.NgFault.TheVariants as ng
use Rattle.pcapng_io.specs.Blocks.{type_of, link_in, section_in, interface_in, held, with_total, block_at}
use Rattle.pcapng_io.specs.NgReading.{NgPlace, Goes, Ends, step_with, step}
use Rattle.pcapng_io.proofs.NgSteps.{step_front}
use Rattle.pcapng_theory.specs.NgBlocks.{bytes_of_block, FitsBlock, section_header_block, interface_description_block, obsolete_packet_block, simple_packet_block, enhanced_packet_block, byte_order_magic, SectionHeader, section_header_body, section_header_bytes, FitsSectionHeader, InterfaceDescription, interface_description_body, FitsInterfaceDescription, IsOther}
use Rattle.pcapng_theory.specs.NgEndings.{least_total}
use Rattle.pcapng_theory.proofs.FrontsRead.{Seen, section_found, other_found}

-- ---- the body of a block

-- the body and the last total length, at their offset in the block
pub body_here : (little : Bool) (kind k : ℕ) (body : List ℕ) → drop (8 + k) (bytes_of_block little kind body)
    ≡ drop k (body ++ number_bytes little 4 (length body + 12))
body_here little kind k body =
    let a = number_bytes little 4 kind in
    let t = number_bytes little 4 (length body + 12) in
    let la = number_bytes_length little 4 kind in
    let lt = number_bytes_length little 4 (length body + 12) in
    let eight : drop 8 (bytes_of_block little kind body) ≡ body ++ t =
    sym (drop-drop 4 4 (bytes_of_block little kind body)) ∙ ap (drop 4) (drop_at a (t ++ (body ++ t)) 4 la) ∙ drop_at t (body ++ t) 4 lt in
    sym (drop-drop k 8 (bytes_of_block little kind body)) ∙ ap (drop k) eight

-- one field behind another
pub field_behind : (k n : ℕ) (front field rest bytes : List ℕ) → drop k bytes ≡ field ++ rest → length field ≡ n
    → drop (k + n) bytes ≡ rest
field_behind k n front field rest bytes is len = sym (drop-drop n k bytes) ∙ ap (drop n) is ∙ drop_at field rest n len

-- ---- a section's header

module _ (h : SectionHeader) (rest : List ℕ) (fits : FitsSectionHeader h) where
  abbrev section_last : List ℕ
  section_last = number_bytes h.little 4 (length (section_header_body h) + 12)

  section_len : 16 ≤ length (section_header_body h)
  section_len =
      let a = number_bytes_length h.little 4 byte_order_magic in
      let b = number_bytes_length h.little 2 h.major in
      let c = number_bytes_length h.little 2 h.minor in
      let d = number_bytes_length h.little 8 h.section_length in
      simp length-append (omega (arith, a, b, c, d))

  section_fields : (more : List ℕ) → section_header_body h ++ more ≡ number_bytes h.little 4 byte_order_magic ++
      (number_bytes h.little 2 h.major ++ (number_bytes h.little 2 h.minor ++ (number_bytes h.little 8 h.section_length ++
      (h.options ++ more))))
  section_fields more = simp append_assoc refl

  section_magic : (more : List ℕ) → take 4 (section_header_body h ++ more) ≡ number_bytes h.little 4 byte_order_magic
  section_magic more =
      ap (take 4) (section_fields more)
      ∙ take_at (number_bytes h.little 4 byte_order_magic) _ 4 (number_bytes_length h.little 4 byte_order_magic)

  section_major : number_of h.little 2 (drop 12 (section_header_bytes h)) ≡ h.major
  section_major =
      let later = number_bytes h.little 2 h.minor ++ (number_bytes h.little 8 h.section_length ++ (h.options ++ section_last)) in
      ap (number_of h.little 2) (body_here h.little section_header_block 4 (section_header_body h)
      ∙ ap (drop 4) (section_fields section_last)
      ∙ drop_at (number_bytes h.little 4 byte_order_magic) (number_bytes h.little 2 h.major ++ later) 4
      (number_bytes_length h.little 4 byte_order_magic))
      ∙ number_of_bytes h.little 2 h.major later fits.major

  section_at_front : (p : NgPlace) → step p (section_header_bytes h ++ rest)
      ≡ step_with p (section_header_bytes h ++ rest) (with_total (length (section_header_body h) + 12)
      (held h.little [] (type_of section_header_block) (section_header_bytes h)))
  section_at_front p =
      step_front p (section_header_bytes h ++ rest) _ (section_found h.little section_header_block (section_header_body h) rest fits.block
      p.little p.interfaces refl (section_magic (section_last ++ rest)) section_len)

  version_is_one : (p : NgPlace) → h.major ≡ 1
      → step_with p (section_header_bytes h ++ rest) (with_total (length (section_header_body h) + 12)
      (held h.little [] (type_of section_header_block) (section_header_bytes h)))
      ≡ Goes [] (record { little = h.little; interfaces = []; blocks = p.blocks + 1; packets = p.packets })
      (length (section_header_body h) + 12)
  unfolding type_of section_in
  version_is_one p one = rw (section_major, one) refl

  version_is_other : (p : NgPlace) → (h.major ≡ 1 → ⊥)
      → step_with p (section_header_bytes h ++ rest) (with_total (length (section_header_body h) + 12)
      (held h.little [] (type_of section_header_block) (section_header_bytes h)))
      ≡ Ends (ends.Faulty (ng.NgVersion (p.blocks + 1)))
  unfolding type_of section_in
  version_is_other p other = rw (section_major, ne_eqb h.major 1 other) refl

  pub header_read : (p : NgPlace) → h.major ≡ 1 → step p (section_header_bytes h ++ rest)
      ≡ Goes [] (record { little = h.little; interfaces = []; blocks = p.blocks + 1; packets = p.packets })
      (length (section_header_body h) + 12)
  header_read p one = section_at_front p ∙ version_is_one p one

  pub version_read : (p : NgPlace) → (h.major ≡ 1 → ⊥) → step p (section_header_bytes h ++ rest)
      ≡ Ends (ends.Faulty (ng.NgVersion (p.blocks + 1)))
  version_read p other = section_at_front p ∙ version_is_other p other

-- ---- an interface description

-- what the reader keeps of it
abbrev pub seen : InterfaceDescription → Seen
seen d = record { link = link_in d.link_type; snaplen = d.snap_len }

module _ (little : Bool) (d : InterfaceDescription) (fits : FitsInterfaceDescription little d) where
  abbrev description_last : List ℕ
  description_last = number_bytes little 4 (length (interface_description_body little d) + 12)

  abbrev description_block : List ℕ
  description_block = bytes_of_block little interface_description_block (interface_description_body little d)

  description_fields : interface_description_body little d ++ description_last ≡ number_bytes little 2 d.link_type ++
      (number_bytes little 2 d.reserved ++ (number_bytes little 4 d.snap_len ++ (d.options ++ description_last)))
  description_fields = simp append_assoc refl

  description_first : drop 8 description_block ≡ number_bytes little 2 d.link_type ++
      (number_bytes little 2 d.reserved ++ (number_bytes little 4 d.snap_len ++ (d.options ++ description_last)))
  description_first = body_here little interface_description_block 0 (interface_description_body little d) ∙ description_fields

  description_link : number_of little 2 (drop 8 description_block) ≡ d.link_type
  description_link = ap (number_of little 2) description_first ∙ number_of_bytes little 2 d.link_type _ fits.link_type

  description_snap : number_of little 4 (drop 12 description_block) ≡ d.snap_len
  description_snap =
      let link = number_bytes little 2 d.link_type in
      let reserved = number_bytes little 2 d.reserved in
      let later = number_bytes little 4 d.snap_len ++ (d.options ++ description_last) in
      let ten : drop 10 description_block ≡ reserved ++ later =
      field_behind 8 2 [] link (reserved ++ later) description_block description_first (number_bytes_length little 2 d.link_type) in
      ap (number_of little 4) (field_behind 10 2 [] reserved later description_block ten (number_bytes_length little 2 d.reserved))
      ∙ number_of_bytes little 4 d.snap_len (d.options ++ description_last) fits.snap_len

  description_seen : interface_in little description_block ≡ seen d
  unfolding interface_in
  description_seen = rw (description_link, description_snap) refl

  description_len : 8 ≤ length (interface_description_body little d)
  description_len =
      let a = number_bytes_length little 2 d.link_type in
      let b = number_bytes_length little 2 d.reserved in
      let c = number_bytes_length little 4 d.snap_len in
      simp length-append (omega (arith, a, b, c))

  description_held : (p : NgPlace) (bytes : List ℕ) (total : ℕ)
      → step_with p bytes (with_total total (held little p.interfaces (type_of interface_description_block) description_block))
      ≡ Goes [] (record {
        little = p.little;
        interfaces = p.interfaces ++ (seen d ∷ []);
        blocks = p.blocks + 1;
        packets = p.packets;
      }) total
  unfolding type_of
  description_held p bytes total = rw description_seen refl

  pub description_read : (p : NgPlace) (rest : List ℕ) → p.little ≡ little → step p (description_block ++ rest)
      ≡ Goes [] (record {
        little = p.little;
        interfaces = p.interfaces ++ (seen d ∷ []);
        blocks = p.blocks + 1;
        packets = p.packets;
      }) (length (interface_description_body little d) + 12)
  description_read p rest order =
      let len = description_len in
      step_front p (description_block ++ rest) _ (ap (λ (o : Bool). block_at o p.interfaces (description_block ++ rest)) order
      ∙ other_found little interface_description_block (interface_description_body little d) rest fits.block p.interfaces
      (λ is. absurd (omega arith)) (omega arith))
      ∙ description_held p (description_block ++ rest) (length (interface_description_body little d) + 12)

-- ---- the obsolete packet, and blocks that are skipped

obsolete_held : (p : NgPlace) (little : Bool) (interfaces : List Seen) (block bytes : List ℕ) (total : ℕ)
    → step_with p bytes (with_total total (held little interfaces (type_of obsolete_packet_block) block))
    ≡ Ends (ends.Faulty (ng.NgOldBlock (p.blocks + 1)))
unfolding type_of
obsolete_held p little interfaces block bytes total = refl

pub obsolete_read : (p : NgPlace) (body rest : List ℕ) → FitsBlock obsolete_packet_block body
    → step p (bytes_of_block p.little obsolete_packet_block body ++ rest) ≡ Ends (ends.Faulty (ng.NgOldBlock (p.blocks + 1)))
obsolete_read p body rest fits =
    let block = bytes_of_block p.little obsolete_packet_block body in
    step_front p (block ++ rest) _ (other_found p.little obsolete_packet_block body rest fits p.interfaces (λ is. absurd (omega arith))
    (omega arith))
    ∙ obsolete_held p p.little p.interfaces block (block ++ rest) (length body + 12)

other_held : (p : NgPlace) (kind : ℕ) (block bytes : List ℕ) (total : ℕ) → IsOther kind
    → step_with p bytes (with_total total (held p.little p.interfaces (type_of kind) block))
    ≡ Goes [] (record { little = p.little; interfaces = p.interfaces; blocks = p.blocks + 1; packets = p.packets }) total
unfolding type_of
other_held p kind block bytes total other =
    rw (
      ne_eqb kind section_header_block other.no_section_header,
      ne_eqb kind interface_description_block other.no_interface_description,
      ne_eqb kind enhanced_packet_block other.no_enhanced_packet,
      ne_eqb kind simple_packet_block other.no_simple_packet,
      ne_eqb kind obsolete_packet_block other.no_obsolete_packet,
    ) refl

least_other : (kind : ℕ) → IsOther kind → least_total kind ≡ 12
least_other kind other =
    rw (
      ne_eqb kind section_header_block other.no_section_header,
      ne_eqb kind interface_description_block other.no_interface_description,
      ne_eqb kind enhanced_packet_block other.no_enhanced_packet,
      ne_eqb kind simple_packet_block other.no_simple_packet,
    ) refl

pub other_read : (p : NgPlace) (kind : ℕ) (body rest : List ℕ) → FitsBlock kind body → IsOther kind
    → step p (bytes_of_block p.little kind body ++ rest)
    ≡ Goes [] (record { little = p.little; interfaces = p.interfaces; blocks = p.blocks + 1; packets = p.packets }) (length body + 12)
other_read p kind body rest fits other =
    let block = bytes_of_block p.little kind body in
    let least = least_other kind other in
    step_front p (block ++ rest) _ (other_found p.little kind body rest fits p.interfaces other.no_section_header (omega (arith, least)))
    ∙ other_held p kind block (block ++ rest) (length body + 12) other
