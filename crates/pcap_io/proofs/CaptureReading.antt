-- The frames at the front of bytes, by what is there.
use Rattle.std.proofs.Common.{◌≡◌, ℕ, zero, suc, ◌+◌, ◌<◌, ◌≤◌, List, [], ◌∷◌, length, refl}
use Rattle.std.proofs.lemmas.Bool.{le-leb, lt-leb}
use Rattle.pcap_io.specs.declared.capture_head.CaptureHead.{CaptureHead}
use Rattle.pcap_io.specs.Frames.{frame_len, first_frame, behind, numbered, with_front, frames_of}

pub frames_of_zero : (head : CaptureHead) (n : ℕ) (bytes : List ℕ) → frames_of head 0 n bytes ≡ record { frames = []; rest = bytes }
unfolding frames_of
frames_of_zero head n bytes = refl

-- a whole frame at the front is the first
pub frames_of_whole : (head : CaptureHead) (most n : ℕ) (bytes : List ℕ) → frame_len head.little bytes ≤ length bytes
    → frames_of head (suc most) n bytes
    ≡ with_front (numbered head.link n (first_frame head.little bytes) ∷ []) (frames_of head most (n + 1) (behind head.little bytes))
unfolding frames_of
frames_of_whole head most n bytes whole = rw (le-leb (frame_len head.little bytes) (length bytes) whole, frames_of) refl

-- where no whole frame is at the front, there is none
pub frames_of_none : (head : CaptureHead) (most n : ℕ) (bytes : List ℕ) → length bytes < frame_len head.little bytes
    → frames_of head most n bytes ≡ record { frames = []; rest = bytes }
unfolding frames_of
frames_of_none head zero n bytes none = refl
frames_of_none head (suc most) n bytes none = rw (lt-leb (frame_len head.little bytes) (length bytes) none, frames_of) refl
