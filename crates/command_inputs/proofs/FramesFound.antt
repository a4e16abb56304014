-- What the frames of a capture's reader are, one after the other.
use Rattle.std.proofs.Common.{◌≡◌, ℕ, suc, ◌+◌, ◌-◌, ◌<◌, false, ◌==◌, rules, List, [], ◌∷◌, length, Option, Some, None, Ok, refl, sym, ap, ◌∙◌, arith, add-zero, subst}
use Rattle.pcap_io.specs.declared.fault.CaptureFault.TheVariants.{FrameLimit}
use Rattle.pcap_io.specs.declared.frame.Frame.{Frame}
use Rattle.pcap_io.specs.declared.numbers.TheConstants.{MAX_FRAMES}
use Rattle.pcap_io.specs.CaptureTerms.{Reader, IsDone, IsAtLimit, Takes, next_frame}
use Rattle.pcap_io.specs.Frames.{Reading, with_front, frames_of}
use Rattle.pcap_io.specs.declared.pieces.CaptureEnd.{CaptureEnd}
use Rattle.pcap_io.specs.declared.pieces.CaptureEnd.TheVariants as ends
use Rattle.pcap_io.specs.declared.pieces.FrameNext.TheVariants as nexts
use Rattle.pcap_io.specs.Feeding.{EndsWith, GoesOn, PiecesSeen}
use Rattle.pcap_io.proofs.PublicLaws.{frames_of_zero, frames_of_whole, frames_of_none}
use Rattle.command_output.specs.declared.refusal.Refusal.{Refusal}
use Rattle.command_output.specs.declared.refusal.Refusal.TheVariants as refusals
use Rattle.command_inputs.specs.InputFrames.{FindsFrame, seen_at}
use Rattle.command_inputs.specs.InputPackets.{fault_behind}
use Rattle.command_inputs.specs.InputPacketsTerms.{refusal_of_capture_end, left_of}

-- what is after the last frame

pub fault_none : (count : ℕ) (rest : List ℕ) → length rest ≡ 0 → None ≡ fault_behind count rest
fault_none count rest none = rw none refl

pub fault_cut : (count number : ℕ) (rest : List ℕ) → 0 < length rest → (count ≡ MAX_FRAMES → length rest ≡ 0) → number ≡ count + 1
    → Some (refusals.CutFrame number) ≡ fault_behind count rest
fault_cut count number rest some within is =
    let more : (length rest == 0) ≡ false = search rules in
    let below : (count == MAX_FRAMES) ≡ false = grind (arith, within) in
    rw (more, below, is) refl

pub fault_limit : (count : ℕ) (rest : List ℕ) → 0 < length rest → count ≡ MAX_FRAMES
    → Some (refusals.Capture FrameLimit) ≡ fault_behind count rest
fault_limit count rest some full =
    let more : (length rest == 0) ≡ false = search rules in
    rw (more, full) refl

-- the refusal at the end, by what a reader has left
abbrev end_of : ℕ → Reading → Option Refusal
end_of taken read = fault_behind (taken + length read.frames) read.rest

module _ (old new : Reader) (frame : Frame) (at : Option Frame) (h : Takes old new (Ok (Some frame))) where
  left_frame : left_of old ≡ with_front (frame ∷ []) (left_of new)
  left_frame =
      let count : MAX_FRAMES - old.taken ≡ suc (MAX_FRAMES - (old.taken + 1)) = omega (arith, h.0.0) in
      rw (h.1, h.2) (ap (λ (most : ℕ). frames_of old.head most (old.taken + 1) old.rest) count
      ∙ frames_of_whole old.head (MAX_FRAMES - (old.taken + 1)) (old.taken + 1) old.rest h.0.1)

  one_more : new.taken ≡ old.taken + 1
  one_more = ap (λ (r : Reader). r.taken) h.2

  end_same : end_of new.taken (left_of new) ≡ end_of old.taken (left_of old)
  end_same =
      let count : new.taken + length (left_of new).frames ≡ old.taken + suc (length (left_of new).frames) = omega (arith, one_more) in
      ap (λ (n : ℕ). fault_behind n (left_of new).rest) count ∙ sym (ap (end_of old.taken) left_frame)

  pub frame_found : FindsFrame (seen_at at old) (seen_at (Some frame) new)
  frame_found = record {
    frame = frame;
    at = refl;
    front = ap (λ (r : Reading). r.frames) left_frame;
    end = end_same;
    number = ap (λ (f : Frame). f.number) h.1;
    taken = one_more;
    few = omega (arith, one_more, h.0.0);
  }

nothing_left : (at : Option Frame) (old : Reader) (fault : Option Refusal) → left_of old ≡ record { frames = []; rest = old.rest }
    → fault ≡ fault_behind old.taken old.rest → ((seen_at at old).frames ≡ []) × (fault ≡ (seen_at at old).end)
nothing_left at old fault none is = (
  ap (λ (r : Reading). r.frames) none,
  is ∙ sym (ap (end_of old.taken) none ∙ ap (λ (n : ℕ). fault_behind n old.rest) (add-zero old.taken)),
)

pub end_found : (old new : Reader) (at : Option Frame) (fault : Option Refusal) → IsDone old × (new ≡ old)
    → fault ≡ fault_behind new.taken new.rest → ((seen_at at old).frames ≡ []) × (fault ≡ (seen_at at old).end)
end_found old new at fault h is =
    nothing_left at old fault (frames_of_none old.head (MAX_FRAMES - old.taken) (old.taken + 1) old.rest h.0.0)
    (is ∙ ap (λ (r : Reader). fault_behind r.taken r.rest) h.1)

pub limit_found : (old : Reader) (at : Option Frame) → IsAtLimit old
    → ((seen_at at old).frames ≡ []) × (Some (refusals.Capture FrameLimit) ≡ (seen_at at old).end)
limit_found old at limit =
    let none : MAX_FRAMES - old.taken ≡ 0 = omega (arith, limit.0) in
    nothing_left at old (Some (refusals.Capture FrameLimit))
    (ap (λ (most : ℕ). frames_of old.head most (old.taken + 1) old.rest) none ∙ frames_of_zero old.head (old.taken + 1) old.rest)
    (fault_limit old.taken old.rest limit.1 limit.0)

-- ---- a capture that is fed in pieces

pub pieces_found : (old new : PiecesSeen) → GoesOn old (Ok nexts.Frame) new → FindsFrame (seen_at old.at old.left) (seen_at new.at new.left)
pieces_found old new h =
    subst (λ (at : Option Frame). FindsFrame (seen_at old.at old.left) (seen_at at new.left)) (sym h.1)
    (frame_found old.left new.left (next_frame old.left) old.at (h.0, refl, h.2))

pub pieces_ended : (old : PiecesSeen) (end : CaptureEnd) → EndsWith old.left end
    → ((seen_at old.at old.left).frames ≡ []) × (refusal_of_capture_end end ≡ (seen_at old.at old.left).end)
pieces_ended old ends.Whole h =
    end_found old.left old.left old.at None (h.0, refl) (fault_none old.left.taken old.left.rest h.1)
pieces_ended old (ends.CutIn number) h =
    end_found old.left old.left old.at (Some (refusals.CutFrame number)) (h.0, refl)
    (fault_cut old.left.taken number old.left.rest h.1 h.0.1 h.2)
pieces_ended old ends.AtLimit h = limit_found old.left old.at h
