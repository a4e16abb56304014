-- Need not be believed: helps proofs and other laws.
-- Terms beside those of `specs/NgReading.antt`.
use Rattle.std.specs.Prelude.{◌≡◌, ℕ, ◌+◌, List, [], ◌∷◌, ⊤}
use Rattle.pcap_io.specs.declared.frame.Frame.{Frame}
use Rattle.pcapng_io.specs.declared.end.NgEnd.{NgEnd}
use Rattle.pcapng_io.specs.NgReading.{ng_capture_of}

-- a file has these frames and this end
abbrev pub NgFrames : List ℕ → List Frame → NgEnd → Type 0
NgFrames bytes frames end = ng_capture_of bytes ≡ record { frames = frames; end = end }

-- frames numbered from n on
abbrev pub AreFrom : ℕ → List Frame → Type 0
AreFrom n [] = ⊤
AreFrom n (frame ∷ more) = (frame.number ≡ n) × AreFrom (n + 1) more
