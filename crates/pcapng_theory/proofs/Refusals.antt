-- What is read of any bytes is what the grammar says, and the refusals are its endings.
use Rattle.std.proofs.Common.{◌≡◌, ◌↔◌, ℕ, false, List, [], ◌∷◌, ◌++◌, refl, sym, ap, ◌∙◌}
use Rattle.pcap_io.specs.Numbers.{number_of}
use Rattle.pcap_io.proofs.CaptureNumberLemmas.{number_of_bytes}
use Rattle.pcapng_io.specs.NgReading.{NgReading, ng_capture_of}
use Rattle.pcapng_theory.specs.NgBlocks.{section_header_block, Block}
use Rattle.pcapng_theory.specs.NgEndings.{Ending}
use Rattle.pcapng_theory.specs.NgFiles.{Section, File, ending_block, Spells, EndsAt, EndsIn}
use Rattle.pcapng_theory.specs.NgFrames.{end_in, file_reading}
use Rattle.pcapng_theory.proofs.Fronts.{AreBytes, block_spelled}
use Rattle.pcapng_theory.proofs.FilesBehind.{file_of, file_spelled, spelled_behind, fit_head, later_bytes}
use Rattle.pcapng_theory.proofs.FilesReadBack.{file_read}
use Rattle.pcapng_theory.proofs.SameBlocks.{kind_of, body_of, block_is, block_fits, no_section}
use Rattle.pcapng_theory.proofs.Unique.{ending_of, told_back, block_of}

pub each_file : (bytes : List ℕ) → AreBytes bytes → (f : File) × Spells bytes f × (ng_capture_of bytes ≡ file_reading f)
each_file bytes all =
    let found = file_spelled bytes all in
    (found.0, found.1, file_read bytes found.0 found.1)

-- ---- the endings

ending_told : (block n : ℕ) (e d : Ending) → end_in block e ≡ end_in n d → e ≡ d
ending_told block n e d is = sym (told_back block e) ∙ ap ending_of is ∙ told_back n d

-- an ending that has the number of its block is told exactly where the bytes end so
pub told_so : (bytes : List ℕ) (n : ℕ) (e : Ending) → ((block : ℕ) → end_in block e ≡ end_in n e → block ≡ n) → AreBytes bytes
    → ((ng_capture_of bytes).end ≡ end_in n e) ↔ EndsIn bytes e n
told_so bytes n e numbered all = (
  λ is.
      let found = each_file bytes all in
      let f = found.0 in
      let told : end_in (ending_block f) f.ending ≡ end_in n e = sym (ap (λ (r : NgReading). r.end) found.2) ∙ is in
      let same = ending_told (ending_block f) n f.ending e told in
      (f, found.1, same, numbered (ending_block f) (ap (end_in (ending_block f)) (sym same) ∙ told)),
  λ ends.
      ap (λ (r : NgReading). r.end) (file_read bytes ends.0 ends.1) ∙ ap (end_in (ending_block ends.0)) ends.2
      ∙ ap (λ (k : ℕ). end_in k e) ends.3,
)

-- and one that has none
pub told_at : (bytes : List ℕ) (e : Ending) → ((block : ℕ) → end_in block e ≡ end_in 0 e) → AreBytes bytes
    → ((ng_capture_of bytes).end ≡ end_in 0 e) ↔ EndsAt bytes e
told_at bytes e alike all = (
  λ is.
      let found = each_file bytes all in
      let f = found.0 in
      let told : end_in (ending_block f) f.ending ≡ end_in 0 e = sym (ap (λ (r : NgReading). r.end) found.2) ∙ is in
      (f, found.1, ending_told (ending_block f) 0 f.ending e told),
  λ ends.
      ap (λ (r : NgReading). r.end) (file_read bytes ends.0 ends.1) ∙ ap (end_in (ending_block ends.0)) ends.2
      ∙ alike (ending_block ends.0),
)

-- ---- the first section

section_type_there : (bytes : List ℕ) → number_of false 4 (0x0a ∷ 0x0d ∷ 0x0d ∷ 0x0a ∷ bytes) ≡ section_header_block
unfolding number_of
section_type_there bytes = refl

first_by : (bytes : List ℕ) (blocks : List Block) (sections : List Section) (rest : List ℕ) (ending : Ending)
    → Spells (0x0a ∷ 0x0d ∷ 0x0d ∷ 0x0a ∷ bytes) (file_of blocks sections rest ending) → blocks ≡ []
first_by bytes [] sections rest ending s = refl
first_by bytes (c ∷ cs) sections rest ending s =
    let all = 0x0a ∷ 0x0d ∷ 0x0d ∷ 0x0a ∷ bytes in
    let f = file_of cs sections rest ending in
    let behind = spelled_behind all (file_of (c ∷ cs) sections rest ending) s in
    let fits = fit_head false [] c cs behind.blocks in
    let block = block_fits false [] c fits in
    let spelled =
    block_of false [] 0 all c f behind ∙ ap (λ (bs : List ℕ). bs ++ later_bytes false f) (block_is false c)
    ∙ block_spelled false (kind_of c) (body_of false c) (later_bytes false f) in
    let kind : kind_of c ≡ section_header_block =
    sym (ap (number_of false 4) spelled ∙ number_of_bytes false 4 (kind_of c) _ block.kind) ∙ section_type_there bytes in
    absurd (no_section false [] c fits kind)

pub section_first : (bytes : List ℕ) (f : File) → Spells (0x0a ∷ 0x0d ∷ 0x0d ∷ 0x0a ∷ bytes) f → f.before_sections ≡ []
section_first bytes f s = first_by bytes f.before_sections f.sections f.rest f.ending s
