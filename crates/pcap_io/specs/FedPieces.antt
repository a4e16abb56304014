-- Need not be believed: helps proofs and other laws.
-- A capture that is fed in pieces: what its reader lends, and calls one after the other.
use Rattle.std.specs.Prelude.{◌≡◌, ℕ, ◌+◌, ◌-◌, List, [], ◌∷◌, ◌++◌, Option, Some, None, Result, Ok, Err}
use Rattle.pcap_io.specs.declared.fault.FrameLimit.{FrameLimit}
use Rattle.pcap_io.specs.declared.frame.Frame.{Frame}
use Rattle.pcap_io.specs.declared.capture_head.CaptureHead.{CaptureHead}
use Rattle.pcap_io.specs.declared.numbers.TheConstants.{MAX_FRAMES}
use Rattle.pcap_io.specs.Frames.{Reading, frames_of}
use Rattle.pcap_io.specs.CaptureTerms.{Reader, HasFrame, IsAtLimit, IsDone, next_frame, Takes}

abbrev pub fresh_reader : CaptureHead → Reader
fresh_reader head = record { head = head; taken = 0; rest = [] }

-- a piece was fed
abbrev pub fed : Reader → List ℕ → Reader
fed r piece = record { head = r.head; taken = r.taken; rest = r.rest ++ piece }

-- what `peek` gives
abbrev pub Peeks : Reader → Result (Option Frame) FrameLimit → Type 0
Peeks r (Ok (Some frame)) = HasFrame r × (frame ≡ next_frame r)
Peeks r (Ok None) = IsDone r
Peeks r (Err limit) = IsAtLimit r

-- the frames that come of a reader, and what is after them, when these bytes are fed and no more
abbrev pub coming : Reader → List ℕ → Reading
coming r more = frames_of r.head (MAX_FRAMES - r.taken) (r.taken + 1) (r.rest ++ more)

-- ---- calls one after the other

-- a piece was fed, a frame was taken, or none was there yet
pub data FrameCall : Type 0 where
  Fed : List ℕ → FrameCall
  Took : Frame → FrameCall
  Waited : FrameCall

abbrev pub Calls : Reader → FrameCall → Reader → Type 0
Calls old (Fed piece) new = new ≡ fed old piece
Calls old (Took frame) new = Takes old new (Ok (Some frame))
Calls old Waited new = Takes old new (Ok None)

-- the calls lead from one reader to another
abbrev pub Runs : Reader → List FrameCall → Reader → Type 0
Runs old [] new = old ≡ new
Runs old (call ∷ calls) new = (next : Reader) × (Calls old call next × Runs next calls new)

-- all bytes that were fed
abbrev pub bytes_fed : List FrameCall → List ℕ
bytes_fed [] = []
bytes_fed (Fed piece ∷ calls) = piece ++ bytes_fed calls
bytes_fed (Took frame ∷ calls) = bytes_fed calls
bytes_fed (Waited ∷ calls) = bytes_fed calls

-- all frames that were taken
abbrev pub frames_taken : List FrameCall → List Frame
frames_taken [] = []
frames_taken (Fed piece ∷ calls) = frames_taken calls
frames_taken (Took frame ∷ calls) = frame ∷ frames_taken calls
frames_taken (Waited ∷ calls) = frames_taken calls
