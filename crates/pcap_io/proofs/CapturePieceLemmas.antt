-- Frames don't depend on where the bytes are cut into pieces.
use Rattle.std.proofs.Common.{◌≡◌, ℕ, suc, ◌+◌, ◌-◌, ◌≤◌, Bool, List, [], ◌∷◌, ◌++◌, length, take, drop, refl, sym, ap, ◌∙◌, arith, length-append, length-drop}
use Rattle.std.proofs.lemmas.List.{append_assoc, append-nil, take-append-le, drop-append-le}
use Rattle.pcap_io.specs.declared.frame.Frame.{Frame}
use Rattle.pcap_io.specs.declared.capture_head.CaptureHead.{CaptureHead}
use Rattle.pcap_io.specs.declared.numbers.TheConstants.{MAX_FRAMES}
use Rattle.pcap_io.specs.Numbers.{number_of}
use Rattle.pcap_io.specs.Frames.{Spelled, Reading, with_front, frame_len, first_frame, behind, numbered, frames_of}
use Rattle.pcap_io.specs.CaptureTerms.{Reader, HasFrame, IsDone, IsAtLimit, next_frame, after_frame}
use Rattle.pcap_io.specs.FedPieces.{fresh_reader, fed, coming, FrameCall, Fed, Took, Waited, Runs, bytes_fed, frames_taken}
use Rattle.pcap_io.proofs.CaptureNumberLemmas.{number_of_take}
use Rattle.pcap_io.proofs.CaptureReading.{frames_of_zero, frames_of_whole, frames_of_none}

-- a number that lies within bytes is the same where more follow
number_at_more : (little : Bool) (at n : ℕ) (xs more : List ℕ) → at + n ≤ length xs
    → number_of little n (drop at (xs ++ more)) ≡ number_of little n (drop at xs)
number_at_more little at n xs more h =
    let len = length-drop at xs in
    ap (number_of little n) (drop-append-le at xs more (omega arith))
    ∙ sym (number_of_take little n (drop at xs ++ more))
    ∙ ap (number_of little n) (take-append-le n (drop at xs) more (omega (arith, len)))
    ∙ number_of_take little n (drop at xs)

-- a frame that is whole has its numbers
pub frame_long : (little : Bool) (xs : List ℕ) → frame_len little xs ≤ length xs → 16 ≤ length xs
unfolding frame_len
frame_long little xs h = omega (arith, h)

frame_len_more : (little : Bool) (xs more : List ℕ) → 16 ≤ length xs → frame_len little (xs ++ more) ≡ frame_len little xs
unfolding frame_len
frame_len_more little xs more h = ap (λ (n : ℕ). 16 + n) (number_at_more little 8 4 xs more (omega (arith, h)))

captured_more : (little : Bool) (xs more : List ℕ) → 16 ≤ length xs → frame_len little xs ≤ length xs
    → take (number_of little 4 (drop 8 (xs ++ more))) (drop 16 (xs ++ more)) ≡ take (number_of little 4 (drop 8 xs)) (drop 16 xs)
unfolding frame_len
captured_more little xs more h whole =
    let len = length-drop 16 xs in
    ap (λ (n : ℕ). take n (drop 16 (xs ++ more))) (number_at_more little 8 4 xs more (omega (arith, h)))
    ∙ ap (take (number_of little 4 (drop 8 xs))) (drop-append-le 16 xs more h)
    ∙ take-append-le (number_of little 4 (drop 8 xs)) (drop 16 xs) more (omega (arith, len, whole))

pub first_frame_more : (little : Bool) (xs more : List ℕ) → frame_len little xs ≤ length xs
    → first_frame little (xs ++ more) ≡ first_frame little xs
unfolding first_frame
first_frame_more little xs more whole =
    let h = frame_long little xs whole in
    rw (
      number_at_more little 0 4 xs more (omega (arith, h)),
      number_at_more little 4 4 xs more (omega (arith, h)),
      number_at_more little 12 4 xs more (omega (arith, h)),
      captured_more little xs more h whole,
    ) refl

-- so a frame that is whole is the first of all bytes, and what is after it is followed by what is fed later
module _ (head : CaptureHead) (most n : ℕ) (xs more : List ℕ) (whole : frame_len head.little xs ≤ length xs) where
  pub longer : frame_len head.little (xs ++ more) ≤ length (xs ++ more)
  longer =
      let same = frame_len_more head.little xs more (frame_long head.little xs whole) in
      let len = length-append xs more in
      omega (arith, same, len, whole)

  pub behind_more : behind head.little (xs ++ more) ≡ behind head.little xs ++ more
  behind_more =
      ap (λ (k : ℕ). drop k (xs ++ more)) (frame_len_more head.little xs more (frame_long head.little xs whole))
      ∙ drop-append-le (frame_len head.little xs) xs more whole

  pub frames_of_more : frames_of head (suc most) n (xs ++ more)
      ≡ with_front (numbered head.link n (first_frame head.little xs) ∷ []) (frames_of head most (n + 1) (behind head.little xs ++ more))
  frames_of_more =
      frames_of_whole head most n (xs ++ more) longer
      ∙ ap (λ (f : Spelled). with_front (numbered head.link n f ∷ []) (frames_of head most (n + 1) (behind head.little (xs ++ more))))
      (first_frame_more head.little xs more whole)
      ∙ ap (λ (rest : List ℕ). with_front (numbered head.link n (first_frame head.little xs) ∷ []) (frames_of head most (n + 1) rest))
      behind_more

-- ---- calls

pub fed_coming : (r : Reader) (piece more : List ℕ) → coming r (piece ++ more) ≡ coming (fed r piece) more
fed_coming r piece more =
    ap (λ (bytes : List ℕ). frames_of r.head (MAX_FRAMES - r.taken) (r.taken + 1) bytes) (sym (append_assoc r.rest piece more))

pub took_coming : (r : Reader) (more : List ℕ) → HasFrame r
    → coming r more ≡ with_front (next_frame r ∷ []) (coming (after_frame r) more)
took_coming r more has =
    let count : MAX_FRAMES - r.taken ≡ suc (MAX_FRAMES - (r.taken + 1)) = omega (arith, has.0) in
    ap (λ (most : ℕ). frames_of r.head most (r.taken + 1) (r.rest ++ more)) count
    ∙ frames_of_more r.head (MAX_FRAMES - (r.taken + 1)) (r.taken + 1) r.rest more has.1

pub runs_coming : (old new : Reader) (calls : List FrameCall) (more : List ℕ) → Runs old calls new
    → coming old (bytes_fed calls ++ more) ≡ with_front (frames_taken calls) (coming new more)
runs_coming old new [] more runs = ap (λ r. coming r more) runs
runs_coming old new (Fed piece ∷ calls) more runs =
    ap (coming old) (append_assoc piece (bytes_fed calls) more)
    ∙ fed_coming old piece (bytes_fed calls ++ more)
    ∙ ap (λ r. coming r (bytes_fed calls ++ more)) (sym runs.1.0)
    ∙ runs_coming runs.0 new calls more runs.1.1
runs_coming old new (Took frame ∷ calls) more runs =
    took_coming old (bytes_fed calls ++ more) runs.1.0.0
    ∙ ap (λ (f : Frame). with_front (f ∷ []) (coming (after_frame old) (bytes_fed calls ++ more))) (sym runs.1.0.1)
    ∙ ap (λ (r : Reader). with_front (frame ∷ []) (coming r (bytes_fed calls ++ more))) (sym runs.1.0.2)
    ∙ ap (with_front (frame ∷ [])) (runs_coming runs.0 new calls more runs.1.1)
runs_coming old new (Waited ∷ calls) more runs =
    ap (λ r. coming r (bytes_fed calls ++ more)) (sym runs.1.0.1) ∙ runs_coming runs.0 new calls more runs.1.1

-- ---- all bytes

-- what was taken comes first of what all bytes come to
pub runs_told : (head : CaptureHead) (r : Reader) (calls : List FrameCall) (more : List ℕ) → Runs (fresh_reader head) calls r
    → frames_of head MAX_FRAMES 1 (bytes_fed calls ++ more) ≡ with_front (frames_taken calls) (coming r more)
runs_told head r calls more runs = runs_coming (fresh_reader head) r calls more runs

all_taken : (frames : List Frame) (rest : List ℕ)
    → with_front frames (record { frames = []; rest = rest }) ≡ record { frames = frames; rest = rest }
all_taken frames rest = ap (λ fs. let made : Reading = record { frames = fs; rest = rest } in made) (append-nil frames)

-- where nothing more is fed, it is all
pub runs_done : (head : CaptureHead) (r : Reader) (calls : List FrameCall) → Runs (fresh_reader head) calls r → IsDone r
    → frames_of head MAX_FRAMES 1 (bytes_fed calls) ≡ record { frames = frames_taken calls; rest = r.rest }
runs_done head r calls runs done =
    ap (frames_of head MAX_FRAMES 1) (sym (append-nil (bytes_fed calls)))
    ∙ runs_told head r calls [] runs
    ∙ ap (λ bytes. with_front (frames_taken calls) (frames_of r.head (MAX_FRAMES - r.taken) (r.taken + 1) bytes)) (append-nil r.rest)
    ∙ ap (with_front (frames_taken calls)) (frames_of_none r.head (MAX_FRAMES - r.taken) (r.taken + 1) r.rest done.0)
    ∙ all_taken (frames_taken calls) r.rest

-- at the limit it is all, whatever is fed later
pub runs_limit : (head : CaptureHead) (r : Reader) (calls : List FrameCall) (more : List ℕ) → Runs (fresh_reader head) calls r → IsAtLimit r
    → frames_of head MAX_FRAMES 1 (bytes_fed calls ++ more) ≡ record { frames = frames_taken calls; rest = r.rest ++ more }
runs_limit head r calls more runs limit =
    let none : MAX_FRAMES - r.taken ≡ 0 = omega (arith, limit.0) in
    runs_told head r calls more runs
    ∙ ap (λ most. with_front (frames_taken calls) (frames_of r.head most (r.taken + 1) (r.rest ++ more))) none
    ∙ ap (with_front (frames_taken calls)) (frames_of_zero r.head (r.taken + 1) (r.rest ++ more))
    ∙ all_taken (frames_taken calls) (r.rest ++ more)
