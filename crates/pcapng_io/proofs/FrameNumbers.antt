-- The frames of a file are numbered one after the other.
use Rattle.std.proofs.Common.{◌≡◌, ℕ, zero, suc, ◌+◌, ◌==◌, List, [], ◌∷◌, ◌++◌, take, drop, Option, Some, None, Result, Ok, Err, sym, ap, ◌∙◌, subst, inl, inr, refl}
use Rattle.std.proofs.lemmas.Bool.{cases_Bool}
use Rattle.pcap_io.specs.declared.frame.Frame.{Frame}
use Rattle.pcap_io.specs.declared.numbers.TheConstants.{MAX_FRAMES}
use Rattle.pcapng_io.specs.declared.ng_block.BlockContent.{BlockContent}
use Rattle.pcapng_io.specs.declared.ng_block.BlockContent.TheVariants as blocks
use Rattle.pcapng_io.specs.declared.ng_block.WholeBlock.{WholeBlock}
use Rattle.pcapng_io.specs.declared.end.NgEnd.TheVariants.{Faulty}
use Rattle.pcapng_io.specs.declared.fault.BlockFault.{BlockFault}
use Rattle.pcapng_io.specs.declared.fault.NgFault.{NgFault}
use Rattle.pcapng_io.specs.NgReading.{NgPlace, NgStep, Ends, Goes, NgReading, fault_in, after, frame_of, step_over, step, start, end_at, blocks_of, reading, ng_capture_of}
use Rattle.pcapng_io.specs.NgReadingTerms.{AreFrom}
use Rattle.pcapng_io.specs.Taking.{NgSeen, coming_with, coming}
use Rattle.pcapng_io.proofs.NgSteps.{front_of, step_front, blocks_of_ends, blocks_of_goes}

-- the frames of one step, and those of the place after it
abbrev GoOn : NgPlace → NgPlace → List Frame → Type 0
GoOn p next frames = (more : List Frame) → AreFrom (next.packets + 1) more → AreFrom (p.packets + 1) (frames ++ more)

on_none : (p next : NgPlace) (frames : List Frame) → [] ≡ frames → p.packets ≡ next.packets → GoOn p next frames
on_none p next frames none same more h =
    subst (λ (fs : List Frame). AreFrom (p.packets + 1) (fs ++ more)) none (subst (λ (n : ℕ). AreFrom (n + 1) more) (sym same) h)

on_one : (p next : NgPlace) (frame : Frame) (frames : List Frame) → frame ∷ [] ≡ frames → frame.number ≡ p.packets + 1
    → p.packets + 1 ≡ next.packets → GoOn p next frames
on_one p next frame frames one number place more h =
    subst (λ (fs : List Frame). AreFrom (p.packets + 1) (fs ++ more)) one
    (number, subst (λ (n : ℕ). AreFrom (n + 1) more) (sym place) h)

on_over : (p next : NgPlace) (bytes : List ℕ) (total n : ℕ) (b : BlockContent) (frames : List Frame)
    → step_over p bytes total b ≡ Goes frames next n → GoOn p next frames
on_over p next bytes total n (blocks.Section little) frames is =
    let none : [] ≡ frames = cc in
    let place : after p (blocks.Section little) ≡ next = cc in
    on_none p next frames none (ap (λ (q : NgPlace). q.packets) place)
on_over p next bytes total n (blocks.Interface i) frames is =
    let none : [] ≡ frames = cc in
    let place : after p (blocks.Interface i) ≡ next = cc in
    on_none p next frames none (ap (λ (q : NgPlace). q.packets) place)
on_over p next bytes total n blocks.Skipped frames is =
    let none : [] ≡ frames = cc in
    let place : after p blocks.Skipped ≡ next = cc in
    on_none p next frames none (ap (λ (q : NgPlace). q.packets) place)
on_over p next bytes total n (blocks.Packet packet) frames is = elim (cases_Bool (p.packets == MAX_FRAMES)) [
  | inl many ↦ absurd (let found = rw many at is in cc)
  | inr few ↦
      let found = rw few at is in
      let one : frame_of p packet (take total bytes) ∷ [] ≡ frames = cc in
      let place : after p (blocks.Packet packet) ≡ next = cc in
      on_one p next (frame_of p packet (take total bytes)) frames one refl (ap (λ (q : NgPlace). q.packets) place)
]

on_step : (p next : NgPlace) (bytes : List ℕ) (frames : List Frame) (total : ℕ) (r : Result (Option WholeBlock) BlockFault)
    → front_of p bytes ≡ r → step p bytes ≡ Goes frames next total → GoOn p next frames
on_step p next bytes frames total (Ok None) is goes =
    let ends : Ends (end_at p bytes) ≡ Goes frames next total = sym (step_front p bytes (Ok None) is) ∙ goes in
    absurd (cc)
on_step p next bytes frames total (Err fault) is goes =
    let ends : Ends (Faulty (fault_in (p.blocks + 1) fault)) ≡ Goes frames next total = sym (step_front p bytes (Err fault) is) ∙ goes in
    absurd (cc)
on_step p next bytes frames total (Ok (Some whole)) is goes =
    on_over p next bytes whole.total total whole.block frames (sym (step_front p bytes (Ok (Some whole)) is) ∙ goes)

numbered_step : (most : ℕ) (p : NgPlace) (bytes : List ℕ) (s : NgStep) → step p bytes ≡ s
    → ((q : NgPlace) (rest : List ℕ) → AreFrom (q.packets + 1) (blocks_of most q rest).frames)
    → AreFrom (p.packets + 1) (blocks_of (suc most) p bytes).frames
numbered_step most p bytes (Ends end) is again =
    subst (λ (r : NgReading). AreFrom (p.packets + 1) r.frames) (sym (blocks_of_ends most p bytes end is)) tt
numbered_step most p bytes (Goes frames next total) is again =
    subst (λ (r : NgReading). AreFrom (p.packets + 1) r.frames) (sym (blocks_of_goes most p next bytes frames total is))
    (on_step p next bytes frames total (front_of p bytes) refl is (blocks_of most next (drop total bytes)).frames
    (again next (drop total bytes)))

numbered_blocks : (most : ℕ) (p : NgPlace) (bytes : List ℕ) → AreFrom (p.packets + 1) (blocks_of most p bytes).frames
unfolding blocks_of
numbered_blocks zero p bytes = tt
numbered_blocks (suc most) p bytes = numbered_step most p bytes (step p bytes) refl (λ q rest. numbered_blocks most q rest)

pub numbered_reading : (p : NgPlace) (bytes : List ℕ) → AreFrom (p.packets + 1) (reading p bytes).frames
unfolding reading
numbered_reading p bytes = numbered_blocks _ p bytes

-- all frames of a file are numbered from 1 on
pub numbered_file : (bytes : List ℕ) → AreFrom 1 (ng_capture_of bytes).frames
numbered_file bytes = numbered_reading start bytes

-- and those that come of a reader, from the one after those taken
numbered_with : (fault : Option NgFault) (p : NgPlace) (bytes : List ℕ) → AreFrom (p.packets + 1) (coming_with fault p bytes).frames
numbered_with (Some fault) p bytes = tt
numbered_with None p bytes = numbered_reading p bytes

pub numbered_coming : (r : NgSeen) (more : List ℕ) → AreFrom (r.place.packets + 1) (coming r more).frames
numbered_coming r more = numbered_with r.fault r.place (r.rest ++ more)
