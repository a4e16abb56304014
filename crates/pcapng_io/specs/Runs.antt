-- Need not be believed: helps proofs and other laws.
-- Calls of a reader one after the other, however the bytes are cut into pieces.
use Rattle.std.specs.Prelude.{◌≡◌, ℕ, List, [], ◌∷◌, ◌++◌, Some, None, Ok}
use Rattle.pcap_io.specs.declared.frame.Frame.{Frame}
use Rattle.pcapng_io.specs.Taking.{NgSeen, after_feed, Takes}

-- a piece was fed, a frame was taken, or none was there yet
pub data NgCall : Type 0 where
  Fed : List ℕ → NgCall
  Took : Frame → NgCall
  Waited : NgCall

abbrev pub Calls : NgSeen → NgCall → NgSeen → Type 0
Calls old (Fed piece) new = new ≡ after_feed old piece
Calls old (Took frame) new = Takes old new (Ok (Some frame))
Calls old Waited new = Takes old new (Ok None)

-- the calls lead from one reader to another
abbrev pub Runs : NgSeen → List NgCall → NgSeen → Type 0
Runs old [] new = old ≡ new
Runs old (call ∷ calls) new = (next : NgSeen) × (Calls old call next × Runs next calls new)

-- all bytes that were fed
abbrev pub bytes_fed : List NgCall → List ℕ
bytes_fed [] = []
bytes_fed (Fed piece ∷ calls) = piece ++ bytes_fed calls
bytes_fed (Took frame ∷ calls) = bytes_fed calls
bytes_fed (Waited ∷ calls) = bytes_fed calls

-- all frames that were taken
abbrev pub frames_taken : List NgCall → List Frame
frames_taken [] = []
frames_taken (Fed piece ∷ calls) = frames_taken calls
frames_taken (Took frame ∷ calls) = frame ∷ frames_taken calls
frames_taken (Waited ∷ calls) = frames_taken calls
