-- Bytes are spelled by one file at most.
use Rattle.std.proofs.Common.{◌≡◌, ℕ, ◌+◌, ◌≤◌, Bool, false, List, [], ◌∷◌, ◌++◌, refl, sym, ap, subst, ◌∙◌, arith}
use Rattle.std.specs.List.{flat_map}
use Rattle.std.proofs.lemmas.List.{append_assoc, append-nil}
use Rattle.std.proofs.lemmas.List.Elements.{All-head}
use Rattle.pcapng_io.specs.declared.end.NgEnd.{NgEnd}
use Rattle.pcapng_io.specs.declared.end.NgEnd.TheVariants as ends
use Rattle.pcapng_io.specs.declared.fault.NgFault.TheVariants as ng
use Rattle.pcapng_io.specs.NgReading.{step}
use Rattle.pcapng_theory.specs.NgBlocks.{SectionHeader, section_header_bytes, FitsSectionHeader, InterfaceDescription, Block, block_bytes, described_by, Fits}
use Rattle.pcapng_theory.specs.NgEndings.{Ending, EndOfBytes, Cut, BadMagic, BadBlock, BadVersion, NoInterface, ObsoleteBlock, TooManyPackets, EndsAs}
use Rattle.pcapng_theory.specs.NgFiles.{Section, section_bytes, FitsSection, File, Spells}
use Rattle.pcapng_theory.specs.NgFrames.{end_in}
use Rattle.pcapng_theory.proofs.Fronts.{AreBytes}
use Rattle.pcapng_theory.proofs.FilesBehind.{file_of, SpellsBehind, spelled_behind, packet_count, fit_head, with_block, later_bytes, behind_first, with_section, from_section, at_section, behind_header, rest_bytes}
use Rattle.pcapng_theory.proofs.EndsRead.{end_steps}
use Rattle.pcapng_theory.proofs.StepsRead.{place, header_step, block_goes}
use Rattle.pcapng_theory.proofs.SameBlocks.{block_same, header_same, header_no_block}

-- ---- ends

abbrev pub ending_of : NgEnd → Ending
ending_of ends.Whole = EndOfBytes
ending_of (ends.CutIn block) = Cut
ending_of (ends.Faulty (ng.NgMagic block)) = BadMagic
ending_of (ends.Faulty (ng.NgBlock block)) = BadBlock
ending_of (ends.Faulty (ng.NgVersion block)) = BadVersion
ending_of (ends.Faulty (ng.NgInterface block)) = NoInterface
ending_of (ends.Faulty (ng.NgOldBlock block)) = ObsoleteBlock
ending_of (ends.Faulty ng.FrameLimit) = TooManyPackets
ending_of (ends.Faulty ng.NoMemory) = EndOfBytes

pub told_back : (block : ℕ) (e : Ending) → ending_of (end_in block e) ≡ e
told_back block EndOfBytes = refl
told_back block Cut = refl
told_back block BadMagic = refl
told_back block BadBlock = refl
told_back block BadVersion = refl
told_back block NoInterface = refl
told_back block ObsoleteBlock = refl
told_back block TooManyPackets = refl

end_same : (little : Bool) (before : List InterfaceDescription) (n : ℕ) (bytes : List ℕ) (d e : Ending) → AreBytes bytes
    → EndsAs little before n bytes d → EndsAs little before n bytes e → d ≡ e
end_same little before n bytes d e all f g =
    let steps = sym (end_steps little before 0 n bytes all d f) ∙ end_steps little before 0 n bytes all e g in
    let told : end_in 1 d ≡ end_in 1 e = cc in
    sym (told_back 1 d) ∙ ap ending_of told ∙ told_back 1 e

block_no_end : (little : Bool) (before : List InterfaceDescription) (n : ℕ) (b : Block) (rest bytes : List ℕ) (e : Ending)
    → Fits little before b → n + packet_count b ≤ 65536 → bytes ≡ block_bytes little b ++ rest → AreBytes bytes
    → EndsAs little before n bytes e → ⊥
block_no_end little before n b rest bytes e fits few is all ends =
    let goes = block_goes little before 0 n rest b fits few in
    let both = sym (end_steps little before 0 n bytes all e ends) ∙ ap (step (place little before 0 n)) is ∙ goes.3 in
    absurd (cc)

header_no_end : (little : Bool) (before : List InterfaceDescription) (n : ℕ) (h : SectionHeader) (rest bytes : List ℕ) (e : Ending)
    → FitsSectionHeader h → h.major ≡ 1 → bytes ≡ section_header_bytes h ++ rest → AreBytes bytes → EndsAs little before n bytes e → ⊥
header_no_end little before n h rest bytes e fits one is all ends =
    let both =
    sym (end_steps little before 0 n bytes all e ends) ∙ ap (step (place little before 0 n)) is
    ∙ header_step little before 0 n h rest fits one in
    absurd (cc)

-- ---- what stands first in a file

module _ (little : Bool) (before : List InterfaceDescription) (n : ℕ) (bytes : List ℕ) where
  abbrev Goes_on : File → Type 0
  Goes_on f = SpellsBehind little before n bytes f

  ends_of : (rest : List ℕ) (e : Ending) → Goes_on (file_of [] [] rest e) → EndsAs little before n bytes e
  ends_of rest e s =
      let none : n + 0 ≡ n = omega arith in
      subst (λ (bs : List ℕ). EndsAs little before n bs e) (sym s.whole)
      (subst (λ (k : ℕ). EndsAs little before k rest e) none
      (subst (λ (ds : List InterfaceDescription). EndsAs little ds (n + 0) rest e) (append-nil before) s.ends))

  pub block_of : (block : Block) (f : File) → Goes_on (with_block block f) → bytes ≡ block_bytes little block ++ later_bytes little f
  block_of block f s =
      s.whole ∙ append_assoc (block_bytes little block) (flat_map (block_bytes little) f.before_sections)
      (flat_map section_bytes f.sections ++ f.rest)

  header_of : (s : Section) (more : List Section) (rest : List ℕ) (e : Ending) → Goes_on (at_section s more rest e)
      → bytes ≡ section_header_bytes s.header ++ later_bytes s.header.little (from_section s more rest e)
  header_of s more rest e spelled =
      let header = section_header_bytes s.header in
      let blocks = flat_map (block_bytes s.header.little) s.blocks in
      let sections = flat_map section_bytes more in
      spelled.whole ∙ append_assoc (header ++ blocks) sections rest ∙ append_assoc header blocks (sections ++ rest)

  section_of : (s : Section) (more : List Section) (rest : List ℕ) (e : Ending) → Goes_on (at_section s more rest e) → FitsSection s
  section_of s more rest e spelled = All-head FitsSection s more spelled.sections

  fits_of : (block : Block) (f : File) → Goes_on (with_block block f) → Fits little before block
  fits_of block f s = fit_head little before block f.before_sections s.blocks

  few_of : (block : Block) (f : File) → Goes_on (with_block block f) → n + packet_count block ≤ 65536
  few_of block f s = let h = (behind_first little before n block bytes f s).few in omega arith

  -- no two of these stand first

  no_block_and_end : (block : Block) (f : File) (rest : List ℕ) (e : Ending) → AreBytes bytes → Goes_on (with_block block f)
      → Goes_on (file_of [] [] rest e) → ⊥
  no_block_and_end block f rest e all s t =
      block_no_end little before n block (later_bytes little f) bytes e (fits_of block f s) (few_of block f s) (block_of block f s) all
      (ends_of rest e t)

  no_header_and_end : (s : Section) (more : List Section) (r rest : List ℕ) (d e : Ending) → AreBytes bytes
      → Goes_on (at_section s more r d) → Goes_on (file_of [] [] rest e) → ⊥
  no_header_and_end s more r rest d e all f g =
      let section = section_of s more r d f in
      header_no_end little before n s.header _ bytes e section.header section.version (header_of s more r d f) all (ends_of rest e g)

  no_header_and_block : (s : Section) (more : List Section) (r : List ℕ) (d : Ending) (block : Block) (f : File)
      → Goes_on (at_section s more r d) → Goes_on (with_block block f) → ⊥
  no_header_and_block s more r d block f a b =
      header_no_block little before s.header block _ _ (section_of s more r d a).header (fits_of block f b)
      (sym (header_of s more r d a) ∙ block_of block f b)

-- ---- wherever two files go on so over the same bytes, they are one

abbrev AreOne : List Block → List Section → List ℕ → Ending → Type 0
AreOne blocks sections rest ending =
    (little : Bool) (before : List InterfaceDescription) (n : ℕ) (bytes : List ℕ) (gb : List Block) (gs : List Section) (gr : List ℕ)
    (ge : Ending) → AreBytes bytes → SpellsBehind little before n bytes (file_of blocks sections rest ending)
    → SpellsBehind little before n bytes (file_of gb gs gr ge) → file_of blocks sections rest ending ≡ file_of gb gs gr ge

end_one : (rest : List ℕ) (ending : Ending) → AreOne [] [] rest ending
end_one rest ending little before n bytes [] [] gr ge all f g =
    let same = end_same little before n bytes ending ge all (ends_of little before n bytes rest ending f) (ends_of little before n bytes gr ge g) in
    let rests : rest ≡ gr = sym f.whole ∙ g.whole in
    ap (λ (r : List ℕ). file_of [] [] r ending) rests ∙ ap (λ (e : Ending). file_of [] [] gr e) same
end_one rest ending little before n bytes [] (t ∷ ts) gr ge all f g =
    absurd (no_header_and_end little before n bytes t ts gr rest ge ending all g f)
end_one rest ending little before n bytes (c ∷ cs) gs gr ge all f g =
    absurd (no_block_and_end little before n bytes c (file_of cs gs gr ge) rest ending all g f)

block_one : (block : Block) (blocks : List Block) (sections : List Section) (rest : List ℕ) (ending : Ending)
    → AreOne blocks sections rest ending → AreOne (block ∷ blocks) sections rest ending
block_one block blocks sections rest ending again little before n bytes [] [] gr ge all f g =
    absurd (no_block_and_end little before n bytes block (file_of blocks sections rest ending) gr ge all f g)
block_one block blocks sections rest ending again little before n bytes [] (t ∷ ts) gr ge all f g =
    absurd (no_header_and_block little before n bytes t ts gr ge block (file_of blocks sections rest ending) g f)
block_one block blocks sections rest ending again little before n bytes (c ∷ cs) gs gr ge all f g =
    let old = file_of blocks sections rest ending in
    let new = file_of cs gs gr ge in
    let spelled = block_of little before n bytes block old f in
    let both =
    block_same little before block c (later_bytes little old) (later_bytes little new) (fits_of little before n bytes block old f)
    (fits_of little before n bytes c new g) (sym spelled ∙ block_of little before n bytes c new g) in
    let behind =
    subst (λ (bs : List ℕ). SpellsBehind little (before ++ described_by block) (n + packet_count block) bs new) (sym both.1)
    (subst (λ (b : Block). SpellsBehind little (before ++ described_by b) (n + packet_count b) (later_bytes little new) new) (sym both.0)
    (behind_first little before n c bytes new g)) in
    let same =
    again little (before ++ described_by block) (n + packet_count block) (later_bytes little old) cs gs gr ge
    (rest_bytes (block_bytes little block) (later_bytes little old) bytes spelled all) (behind_first little before n block bytes old f)
    behind in
    ap (λ (b : Block). with_block b old) both.0 ∙ ap (with_block c) same

section_one : (s : Section) (more : List Section) (rest : List ℕ) (ending : Ending) → AreOne s.blocks more rest ending
    → AreOne [] (s ∷ more) rest ending
section_one s more rest ending again little before n bytes [] [] gr ge all f g =
    absurd (no_header_and_end little before n bytes s more rest gr ending ge all f g)
section_one s more rest ending again little before n bytes (c ∷ cs) gs gr ge all f g =
    absurd (no_header_and_block little before n bytes s more rest ending c (file_of cs gs gr ge) f g)
section_one s more rest ending again little before n bytes [] (t ∷ ts) gr ge all f g =
    let old = from_section s more rest ending in
    let new = from_section t ts gr ge in
    let spelled = header_of little before n bytes s more rest ending f in
    let both =
    header_same s.header t.header (later_bytes s.header.little old) (later_bytes t.header.little new)
    (section_of little before n bytes s more rest ending f).header (section_of little before n bytes t ts gr ge g).header
    (sym spelled ∙ header_of little before n bytes t ts gr ge g) in
    let behind =
    subst (λ (bs : List ℕ). SpellsBehind s.header.little [] n bs new) (sym both.1)
    (subst (λ (h : SectionHeader). SpellsBehind h.little [] n (later_bytes t.header.little new) new) (sym both.0)
    (behind_header little before n t ts gr bytes ge g)) in
    let same =
    again s.header.little [] n (later_bytes s.header.little old) t.blocks ts gr ge
    (rest_bytes (section_header_bytes s.header) (later_bytes s.header.little old) bytes spelled all)
    (behind_header little before n s more rest bytes ending f) behind in
    ap (λ (h : SectionHeader). with_section h old) both.0 ∙ ap (with_section t.header) same

blocks_one : (blocks : List Block) (sections : List Section) (rest : List ℕ) (ending : Ending) → AreOne [] sections rest ending
    → AreOne blocks sections rest ending
blocks_one [] sections rest ending base = base
blocks_one (block ∷ blocks) sections rest ending base =
    block_one block blocks sections rest ending (blocks_one blocks sections rest ending base)

sections_one : (sections : List Section) (rest : List ℕ) (ending : Ending) → AreOne [] sections rest ending
sections_one [] rest ending = end_one rest ending
sections_one (s ∷ more) rest ending =
    section_one s more rest ending (blocks_one s.blocks more rest ending (sections_one more rest ending))

-- bytes have one file at most
pub one_file : (bytes : List ℕ) (f g : File) → Spells bytes f → Spells bytes g → f ≡ g
one_file bytes f g s t =
    blocks_one f.before_sections f.sections f.rest f.ending (sections_one f.sections f.rest f.ending) false [] 0 bytes g.before_sections
    g.sections g.rest g.ending s.are_bytes (spelled_behind bytes f s) (spelled_behind bytes g t)
