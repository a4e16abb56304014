-- Need not be believed: helps proofs and other laws.
-- Terms beside those of `specs/Capture.antt`.
use Rattle.std.specs.Prelude.{◌≡◌, ℕ, ◌+◌, ◌<◌, ◌≤◌, List, length, Option, Some, None, Result, Ok, Err}
use Rattle.pcap_io.specs.declared.fault.TakeFault.{TakeFault}
use Rattle.pcap_io.specs.declared.fault.TakeFault.TheVariants as takes
use Rattle.pcap_io.specs.declared.frame.Frame.{Frame}
use Rattle.pcap_io.specs.declared.capture_head.CaptureHead.{CaptureHead}
use Rattle.pcap_io.specs.declared.numbers.TheConstants.{MAX_FRAMES}
use Rattle.pcap_io.specs.Frames.{frame_len, first_frame, behind, numbered}

-- a reader: the head, how many frames it took, and the bytes that no frame has taken
pub record Reader : Type 0 where
  pub head : CaptureHead
  pub taken : ℕ
  pub rest : List ℕ

-- as many frames as a capture may have were taken, and a byte follows
abbrev pub IsAtLimit : Reader → Type 0
IsAtLimit r = (r.taken ≡ MAX_FRAMES) × (0 < length r.rest)

-- a further frame is there whole
abbrev pub HasFrame : Reader → Type 0
HasFrame r = (r.taken < MAX_FRAMES) × (frame_len r.head.little r.rest ≤ length r.rest)

-- no further whole frame is there, and the limit is kept
abbrev pub IsDone : Reader → Type 0
IsDone r = (length r.rest < frame_len r.head.little r.rest) × (r.taken ≡ MAX_FRAMES → length r.rest ≡ 0)

-- the frame at the front of what is left
abbrev pub next_frame : Reader → Frame
next_frame r = numbered r.head.link (r.taken + 1) (first_frame r.head.little r.rest)

-- the reader after it
abbrev pub after_frame : Reader → Reader
after_frame r = record { head = r.head; taken = r.taken + 1; rest = behind r.head.little r.rest }

-- What `take` gives, and what it leaves. Memory runs out only where a frame is there.
abbrev pub Takes : Reader → Reader → Result (Option Frame) TakeFault → Type 0
Takes old new (Ok (Some frame)) = HasFrame old × (frame ≡ next_frame old) × (new ≡ after_frame old)
Takes old new (Ok None) = IsDone old × (new ≡ old)
Takes old new (Err takes.FrameLimit) = IsAtLimit old × (new ≡ old)
Takes old new (Err takes.NoMemory) = HasFrame old × (new ≡ old)
