-- The reader where bytes end: it tells what the grammar says.
use Rattle.std.proofs.Common.{◌≡◌, ℕ, ◌+◌, ◌<◌, Bool, cond, List, [], ◌++◌, length, map, slice_get, get_or, Some, None, Ok, refl, sym, ap, subst, ◌∙◌, arith, inl, inr}
use Rattle.std.proofs.lemmas.Bool.{ne_eqb}
use Rattle.std.proofs.lemmas.List.{length-map}
use Rattle.std.proofs.lemmas.Option.{slice_get-get_or, slice_get_past}
use Rattle.pcapng_io.specs.declared.end.NgEnd.TheVariants as ends
use Rattle.pcapng_io.specs.Blocks.{block_at}
use Rattle.pcapng_io.specs.NgReading.{NgPlace, Ends, end_at, step, ended, reading}
use Rattle.pcapng_io.proofs.NgSteps.{step_front, reading_ends}
use Rattle.pcapng_theory.specs.NgBlocks.{InterfaceDescription, enhanced_packet_body, simple_packet_body, Block, Interface, Enhanced, Simple, Other, block_bytes, Fits}
use Rattle.pcapng_theory.specs.NgEndings.{Ending, EndOfBytes, Cut, BadMagic, BadBlock, BadVersion, NoInterface, ObsoleteBlock, TooManyPackets, IsPacket, EndsAs, IsCut, HasLongEnhanced, HasLongSimple, HasBadVersion, HasUnknownInterface, HasNoFirstInterface}
use Rattle.pcapng_theory.specs.NgFrames.{end_in}
use Rattle.pcapng_theory.proofs.Fronts.{AreBytes, front_len}
use Rattle.pcapng_theory.proofs.FrontsRead.{short_cut, front_cut, bad_magic_read, misshapen_read}
use Rattle.pcapng_theory.proofs.BlocksRead.{seen, version_read, obsolete_read}
use Rattle.pcapng_theory.proofs.PacketsRead.{enhanced_read, enhanced_long_read, simple_long_read, simple_none_read}
use Rattle.pcapng_theory.proofs.StepsRead.{place, captured_kept, padded_there, enhanced_found, simple_found, first_of, packet_many}
use Rattle.pcapng_theory.proofs.SameBlocks.{enhanced_small}
use Rattle.pcapng_theory.proofs.FilesBehind.{no_description}
use Rattle.pcapng_theory.proofs.BlockCases.{interface_no_packet}
use Rattle.pcapng_theory.proofs.FrontCases.{other_no_packet}

-- ---- the end

module _ (little : Bool) (before : List InterfaceDescription) (b n : ℕ) (rest : List ℕ) where
  abbrev there : NgPlace
  there = place little before b n

  abbrev ends_as : Ending → Type 0
  ends_as e = step there rest ≡ Ends (end_in (b + 1) e)

  cut_step : 0 < length rest → block_at little (map seen before) rest ≡ Ok None → ends_as Cut
  cut_step some is =
      step_front there rest (Ok None) is
      ∙ ap (λ (none : Bool). Ends (cond none ends.Whole (ends.CutIn (b + 1)))) (ne_eqb (length rest) 0 (λ none. omega arith))

  cut_ends : IsCut little rest → ends_as Cut
  cut_ends (inl short) = cut_step short.0 (short_cut little (map seen before) rest short.1)
  cut_ends (inr cut) =
      let len = front_len little rest cut.0 cut.1 in
      cut_step (omega arith) (front_cut little (map seen before) rest cut.0 cut.1 cut.2)

  whole_ends : rest ≡ [] → ends_as EndOfBytes
  whole_ends none =
      step_front there rest (Ok None) (short_cut little (map seen before) rest (rw none (omega arith)))
      ∙ ap (λ (bytes : List ℕ). Ends (end_at there bytes)) none

  -- what stands there, spelled
  step_at : (bytes : List ℕ) → rest ≡ bytes → step there rest ≡ step there bytes
  step_at bytes is = ap (step there) is

  long_enhanced_ends : HasLongEnhanced little rest → ends_as BadBlock
  long_enhanced_ends h =
      step_at _ h.block.spelled
      ∙ enhanced_long_read little h.interface h.upper h.lower h.captured h.original h.rest h.captured_fits h.block.fits there
      h.block.behind refl h.long

  long_simple_ends : HasLongSimple little before rest → ends_as BadBlock
  long_simple_ends h =
      let at : slice_get (map seen before) 0 ≡ Some (seen h.first) =
      ap (λ (ds : List InterfaceDescription). slice_get (map seen ds) 0) h.described in
      let past = subst (λ (k : ℕ). length h.rest < k) (sym (captured_kept h.first.snap_len h.original)) h.long in
      step_at _ h.block.spelled
      ∙ simple_long_read little h.original h.rest h.original_fits h.block.fits there h.block.behind (seen h.first) refl at past

  version_ends : HasBadVersion rest → ends_as BadVersion
  version_ends h = step_at _ h.spelled ∙ version_read h.header h.behind h.fits there h.other

  unknown_ends : HasUnknownInterface little before rest → ends_as NoInterface
  unknown_ends h =
      let p = h.packet in
      let behind = p.packet_data ++ (p.padding ++ p.options) in
      let fit = enhanced_small little p h.fits in
      let count = length-map before seen in
      let unknown = h.unknown in
      let none : slice_get (map seen before) p.interface ≡ None =
      slice_get_past (map seen before) p.interface (omega (arith, count, unknown)) in
      step_front there rest _ (ap (block_at little (map seen before)) h.spelled
      ∙ enhanced_read little p.interface p.upper p.lower (length p.packet_data) p.original behind fit h.fits.block
      (map seen before) h.behind None h.fits.interface h.fits.original
      (padded_there p.packet_data p.padding p.options h.fits.padding) none)

  no_first_ends : HasNoFirstInterface little before rest → ends_as NoInterface
  no_first_ends h =
      step_at _ h.block.spelled
      ∙ simple_none_read little h.original h.rest h.original_fits h.block.fits there h.block.behind refl
      (ap (λ (ds : List InterfaceDescription). slice_get (map seen ds) 0) h.none)

  many_with : (block : Block) (behind : List ℕ) → n ≡ 65536 → IsPacket block → Fits little before block
      → rest ≡ block_bytes little block ++ behind → ends_as TooManyPackets
  many_with (Interface d) behind many packet fits spelled = absurd (interface_no_packet d packet)
  many_with (Other kind body) behind many packet fits spelled = absurd (other_no_packet kind body packet)
  many_with (Enhanced p) behind many packet fits spelled =
      let d = get_or before p.interface no_description in
      let at = slice_get-get_or before p.interface no_description fits.1 in
      let bytes = block_bytes little (Enhanced p) ++ behind in
      step_at bytes spelled
      ∙ packet_many there bytes (length (enhanced_packet_body little p) + 12) d 28 (length p.packet_data) p.original
      (enhanced_found little before [] b n behind p fits.0 d at) many
  many_with (Simple p) behind many packet fits spelled =
      let first = first_of before p fits.1 in
      let bytes = block_bytes little (Simple p) ++ behind in
      step_at bytes spelled
      ∙ packet_many there bytes (length (simple_packet_body little p) + 12) first.0 12 (length p.packet_data) p.original
      (simple_found little before [] b n behind p fits.0 first.0 first.1 first.2) many

  pub end_steps : AreBytes rest → (e : Ending) → EndsAs little before n rest e → ends_as e
  end_steps all EndOfBytes is = whole_ends is
  end_steps all Cut cut = cut_ends cut
  end_steps all BadMagic bad = bad_magic_read there rest all bad
  end_steps all BadBlock (inl bad) = misshapen_read there rest bad.front all bad.begins bad.there bad.misshapen
  end_steps all BadBlock (inr (inl bad)) = long_enhanced_ends bad
  end_steps all BadBlock (inr (inr bad)) = long_simple_ends bad
  end_steps all BadVersion bad = version_ends bad
  end_steps all NoInterface (inl bad) = unknown_ends bad
  end_steps all NoInterface (inr bad) = no_first_ends bad
  end_steps all ObsoleteBlock bad = step_at _ bad.1.spelled ∙ obsolete_read there bad.0 bad.1.behind bad.1.fits
  end_steps all TooManyPackets h = many_with h.block h.behind h.many h.packet h.fits h.spelled

  pub end_reads : AreBytes rest → (e : Ending) → EndsAs little before n rest e → reading there rest ≡ ended (end_in (b + 1) e)
  end_reads all e is = reading_ends there rest (end_in (b + 1) e) (end_steps all e is)
