-- Need not be believed: helps proofs and other laws.
-- Terms beside those of `specs/Frames.antt`.
use Rattle.std.specs.Prelude.{◌≡◌, ℕ, ◌+◌, ◌^◌, ◌<◌, ◌≤◌, Bool, List, [], ◌∷◌, ◌++◌, length, All}
use Rattle.std.specs.List.{flat_map}
use Rattle.pcap_io.specs.declared.frame.Frame.{Frame}
use Rattle.pcap_io.specs.declared.capture_head.CaptureHead.{CaptureHead}
use Rattle.pcap_io.specs.declared.capture_head.LinkType.{LinkType}
use Rattle.pcap_io.specs.Frames.{Spelled, frame_bytes, frame_len, numbered, Reading}

-- what has a spelling
pub record Fits (f : Spelled) : Type 0 where
  pub seconds : f.seconds < 2 ^ 32
  pub fraction : f.fraction < 2 ^ 32
  pub original : f.original < 2 ^ 32
  pub captured : length f.captured < 2 ^ 32

-- no whole frame stands at the front
abbrev pub HoldsNoFrame : Bool → List ℕ → Type 0
HoldsNoFrame little bytes = length bytes < frame_len little bytes

-- frames that stand one after the other, with their numbers from n on
abbrev pub numbered_from : LinkType → ℕ → List Spelled → List Frame
numbered_from link n [] = []
numbered_from link n (f ∷ fs) = numbered link n f ∷ numbered_from link (n + 1) fs

-- The bytes are these frames one after the other, at most so many, and a rest that begins with no whole frame unless
-- they are so many; `read` has what the frames hold, numbered from n on, and the rest.
pub record Splits (head : CaptureHead) (most n : ℕ) (bytes : List ℕ) (frames : List Spelled) (read : Reading) : Type 0 where
  pub fit : All Fits frames
  pub within : length frames ≤ most
  pub whole : bytes ≡ flat_map (frame_bytes head.little) frames ++ read.rest
  pub held : read.frames ≡ numbered_from head.link n frames
  pub partial : length frames < most → HoldsNoFrame head.little read.rest
