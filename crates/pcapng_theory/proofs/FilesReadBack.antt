-- A file of the grammar is read as its frames and its end.
use Rattle.std.proofs.Common.{◌≡◌, ℕ, ◌+◌, Bool, false, List, [], ◌∷◌, ◌++◌, length, refl, sym, ap, subst, ◌∙◌, arith}
use Rattle.std.specs.List.{flat_map}
use Rattle.std.proofs.lemmas.List.{append_assoc, append-nil}
use Rattle.std.proofs.lemmas.List.Elements.{All-head}
use Rattle.pcap_io.specs.declared.frame.Frame.{Frame}
use Rattle.pcapng_io.specs.declared.end.NgEnd.{NgEnd}
use Rattle.pcapng_io.specs.NgReading.{NgReading, with_front, reading, ng_capture_of}
use Rattle.pcapng_theory.specs.NgBlocks.{InterfaceDescription, Block, block_bytes, described_by, interfaces_in, section_header_bytes, Packet, packets_by}
use Rattle.pcapng_theory.specs.NgEndings.{Ending, EndsAs}
use Rattle.pcapng_theory.specs.NgFiles.{Section, section_bytes, FitsSection, section_packets, File, count_blocks, ending_block, Spells}
use Rattle.pcapng_theory.specs.NgFrames.{frame_of, frames_from, end_in, file_reading}
use Rattle.pcapng_theory.proofs.Fronts.{AreBytes}
use Rattle.pcapng_theory.proofs.FilesBehind.{file_of, packets_behind, all_packets, SpellsBehind, spelled_behind, packet_count, count_is, behind_cons, fit_head, later_bytes, behind_first, behind_header, rest_bytes}
use Rattle.pcapng_theory.proofs.EndsRead.{end_reads}
use Rattle.pcapng_theory.proofs.StepsRead.{place, header_reads, block_reads}

-- what is read from a place on
abbrev reading_from : List InterfaceDescription → ℕ → ℕ → File → NgReading
reading_from before b n f =
    record {
      frames = frames_from (n + 1) (all_packets before f.before_sections f.sections);
      end = end_in (b + length f.before_sections + count_blocks f.sections + 1) f.ending;
    }

abbrev made : List Frame → NgEnd → NgReading
made frames end = record { frames = frames; end = end }

abbrev IsRead : Bool → List InterfaceDescription → ℕ → ℕ → File → Type 0
IsRead little before b n f = reading (place little before b n) (later_bytes little f) ≡ reading_from before b n f

-- wherever a file may go on so, it is read
abbrev AreRead : List Block → List Section → List ℕ → Ending → Type 0
AreRead blocks sections rest ending =
    (little : Bool) (before : List InterfaceDescription) (b n : ℕ) (bytes : List ℕ)
    → SpellsBehind little before n bytes (file_of blocks sections rest ending)
    → IsRead little before b n (file_of blocks sections rest ending)

-- ---- numbers of frames

frames_append : (k : ℕ) (ps qs : List Packet) → frames_from k (ps ++ qs) ≡ frames_from k ps ++ frames_from (k + length ps) qs
frames_append k [] qs = let none : k ≡ k + 0 = omega arith in ap (λ (m : ℕ). frames_from m qs) none
frames_append k (p ∷ ps) qs =
    let next : (k + 1) + length ps ≡ k + length (p ∷ ps) = omega arith in
    ap (λ fs. frame_of k p ∷ fs) (frames_append (k + 1) ps qs ∙ ap (λ (m : ℕ). frames_from (k + 1) ps ++ frames_from m qs) next)

frames_cons : (before : List InterfaceDescription) (block : Block) (blocks : List Block) (sections : List Section) (n c : ℕ)
    → length (packets_by (before ++ (described_by block ++ interfaces_in blocks)) block) ≡ c
    → frames_from (n + 1) (all_packets before (block ∷ blocks) sections)
    ≡ frames_from (n + 1) (packets_by (before ++ (described_by block ++ interfaces_in blocks)) block)
    ++ frames_from ((n + c) + 1) (all_packets (before ++ described_by block) blocks sections)
frames_cons before block blocks sections n c counts =
    let own = packets_by (before ++ (described_by block ++ interfaces_in blocks)) block in
    let later = packets_behind (before ++ described_by block) blocks in
    let behind = flat_map section_packets sections in
    let next : (n + 1) + length own ≡ (n + c) + 1 = omega arith in
    ap (λ (ps : List Packet). frames_from (n + 1) (ps ++ behind)) (behind_cons before block blocks)
    ∙ ap (frames_from (n + 1)) (append_assoc own later behind)
    ∙ frames_append (n + 1) own (later ++ behind)
    ∙ ap (λ (m : ℕ). frames_from (n + 1) own ++ frames_from m (later ++ behind)) next

-- ---- one block, then the others

block_then : (block : Block) (blocks : List Block) (sections : List Section) (rest : List ℕ) (ending : Ending)
    → AreRead blocks sections rest ending → AreRead (block ∷ blocks) sections rest ending
block_then block blocks sections rest ending again little before b n bytes s =
    let f = file_of blocks sections rest ending in
    let fits = fit_head little before block blocks s.blocks in
    let behind = behind_first little before n block bytes f s in
    let few = behind.few in
    let c = packet_count block in
    let more = described_by block ++ interfaces_in blocks in
    let own = frames_from (n + 1) (packets_by (before ++ more) block) in
    let later = again little (before ++ described_by block) (b + 1) (n + c) (later_bytes little f) behind in
    let front = block_bytes little block in
    let count : (b + 1) + length blocks + count_blocks sections + 1 ≡ b + length (block ∷ blocks) + count_blocks sections + 1 = omega arith in
    let frames = frames_cons before block blocks sections n c (count_is little before more block fits) in
    ap (reading (place little before b n)) (append_assoc front (flat_map (block_bytes little) blocks) (flat_map section_bytes sections ++ rest))
    ∙ block_reads little before more b n (later_bytes little f) block fits (omega arith)
    ∙ ap (with_front own) later
    ∙ ap (λ (k : ℕ). made (own ++ frames_from ((n + c) + 1) (all_packets (before ++ described_by block) blocks sections)) (end_in k ending)) count
    ∙ ap (λ fs. made fs (end_in (b + length (block ∷ blocks) + count_blocks sections + 1) ending)) (sym frames)

blocks_then : (blocks : List Block) (sections : List Section) (rest : List ℕ) (ending : Ending) → AreRead [] sections rest ending
    → AreRead blocks sections rest ending
blocks_then [] sections rest ending base = base
blocks_then (block ∷ blocks) sections rest ending base =
    block_then block blocks sections rest ending (blocks_then blocks sections rest ending base)

-- ---- sections, one by one

end_then : (rest : List ℕ) (ending : Ending) → AreBytes rest → AreRead [] [] rest ending
end_then rest ending all little before b n bytes s =
    let none : n + 0 ≡ n = omega arith in
    let number : b + 1 ≡ b + 0 + 0 + 1 = omega arith in
    let ends : EndsAs little before n rest ending =
    subst (λ (k : ℕ). EndsAs little before k rest ending) none
    (subst (λ (ds : List InterfaceDescription). EndsAs little ds (n + 0) rest ending) (append-nil before) s.ends) in
    end_reads little before b n rest all ending ends ∙ ap (λ (k : ℕ). made [] (end_in k ending)) number

section_then : (s : Section) (more : List Section) (rest : List ℕ) (ending : Ending) → AreRead s.blocks more rest ending
    → AreRead [] (s ∷ more) rest ending
section_then s more rest ending again little before b n bytes spelled =
    let section = All-head FitsSection s more spelled.sections in
    let behind = behind_header little before n s more rest bytes ending spelled in
    let later = again s.header.little [] (b + 1) n _ behind in
    let header = section_header_bytes s.header in
    let blocks = flat_map (block_bytes s.header.little) s.blocks in
    let sections = flat_map section_bytes more in
    let count : (b + 1) + length s.blocks + count_blocks more + 1 ≡ b + 0 + (1 + length s.blocks + count_blocks more) + 1 = omega arith in
    ap (reading (place little before b n)) (append_assoc (header ++ blocks) sections rest ∙ append_assoc header blocks (sections ++ rest))
    ∙ header_reads little before b n s.header (blocks ++ (sections ++ rest)) section.header section.version
    ∙ later
    ∙ ap (λ (k : ℕ). made (frames_from (n + 1) (all_packets [] s.blocks more)) (end_in k ending)) count

sections_then : (sections : List Section) (rest : List ℕ) (ending : Ending) → AreBytes rest → AreRead [] sections rest ending
sections_then [] rest ending all = end_then rest ending all
sections_then (s ∷ more) rest ending all =
    section_then s more rest ending (blocks_then s.blocks more rest ending (sections_then more rest ending all))

-- ---- the file

pub file_read : (bytes : List ℕ) (f : File) → Spells bytes f → ng_capture_of bytes ≡ file_reading f
file_read bytes f s =
    let blocks = flat_map (block_bytes false) f.before_sections in
    let sections = flat_map section_bytes f.sections in
    let behind = rest_bytes blocks (sections ++ f.rest) bytes s.whole s.are_bytes in
    let rest = rest_bytes sections f.rest (sections ++ f.rest) refl behind in
    let number : 0 + length f.before_sections + count_blocks f.sections + 1 ≡ ending_block f = omega arith in
    ap ng_capture_of s.whole
    ∙ blocks_then f.before_sections f.sections f.rest f.ending (sections_then f.sections f.rest f.ending rest) false [] 0 0 bytes
    (spelled_behind bytes f s)
    ∙ ap (λ (k : ℕ). made (frames_from 1 (all_packets [] f.before_sections f.sections)) (end_in k f.ending)) number
