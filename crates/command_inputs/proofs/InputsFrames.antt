-- The frames of an input: their numbers, and the bytes of their packets.
use Rattle.std.proofs.Common.{◌≡◌, ℕ, zero, suc, ◌+◌, ◌^◌, ◌<◌, Bool, true, false, List, [], ◌∷◌, All, length, drop, Option, Some, None, Result, Ok, Err, refl, sym, arith, subst, inl, inr}
use Rattle.std.specs.Prelude.{◌/◌, ◌==◌, if◌then◌else◌, nat_lt, slice_index}
use Rattle.std.proofs.lemmas.Bool.{cases_lt}
use Rattle.std.proofs.lemmas.List.Elements.{All-cons, All-drop, All-nil, All-take}
use Rattle.pcap_io.specs.declared.fault.CaptureFault.{CaptureFault}
use Rattle.pcap_io.specs.declared.fault.CaptureFault.TheVariants as captures
use Rattle.pcap_io.specs.declared.frame.Body.{Body}
use Rattle.pcap_io.specs.declared.frame.Body.TheVariants as bodies
use Rattle.pcap_io.specs.declared.frame.Frame.{Frame}
use Rattle.pcap_io.specs.declared.capture_head.CaptureHead.{CaptureHead}
use Rattle.pcap_io.specs.declared.capture_head.LinkType.{LinkType}
use Rattle.pcap_io.specs.declared.capture_head.LinkType.TheVariants as links
use Rattle.pcap_io.specs.declared.numbers.TheConstants.{HEAD_LEN, MAX_FRAMES}
use Rattle.pcap_io.specs.Frames.{Reading, Spelled, behind, by_ethertype, first_frame, frame_len, frames_of, numbered, packet_in}
use Rattle.pcap_io.specs.Frames as classic
use Rattle.pcap_io.specs.Head.{head_of}
use Rattle.pcap_io.specs.Numbers.{number_of}
use Rattle.pcap_io.proofs.PublicLaws.{frames_of_none, frames_of_whole, frames_of_zero}
use Rattle.pcapng_io.specs.declared.end.NgEnd.{NgEnd}
use Rattle.pcapng_io.specs.Blocks.{body_in}
use Rattle.pcapng_io.specs.NgReading as ng
use Rattle.pcapng_io.specs.NgReadingTerms as ng_terms
use Rattle.pcapng_io.proofs.PublicLaws.{each_held, numbered_file}
use Rattle.command_output.specs.declared.refusal.Refusal.{Refusal}
use Rattle.command_output.specs.declared.refusal.Refusal.TheVariants as refusals
use Rattle.command_output.specs.declared.limits.TheConstants.{MAX_INPUT_BYTES}
use Rattle.command_inputs.specs.declared.input_packets.Packets.{Packets}
use Rattle.command_inputs.specs.declared.input_packets.Packets.TheVariants.{Bare, Capture, Ng}
use Rattle.command_inputs.specs.InputFrames.{AreFrom}
use Rattle.command_inputs.specs.InputPackets.{capture_by, is_bare, ng_by, ng_unless, packets_in, reading_of, refusal_of_ng_end}

-- ---- frames are numbered from 1 on

are_from : (head : CaptureHead) (most n : ℕ) (bytes : List ℕ) → AreFrom n (frames_of head most n bytes).frames
are_from head zero n bytes = subst (λ (r : Reading). AreFrom n r.frames) (sym (frames_of_zero head n bytes)) tt
are_from head (suc most) n bytes =
    elim (cases_lt (length bytes) (frame_len head.little bytes)) [
      | inl less ↦ subst (λ (r : Reading). AreFrom n r.frames) (sym (frames_of_none head (suc most) n bytes less)) tt
      | inr whole ↦ subst (λ (r : Reading). AreFrom n r.frames) (sym (frames_of_whole head most n bytes whole))
          (refl, are_from head most (n + 1) (behind head.little bytes))
    ]

are_from_ng : (n : ℕ) (frames : List Frame) → ng_terms.AreFrom n frames → AreFrom n frames
are_from_ng n [] from = tt
are_from_ng n (frame ∷ more) from = (from.0, are_from_ng (n + 1) more from.1)

pub numbered_packets : (packets : Packets) → AreFrom 1 (reading_of packets).frames
numbered_packets (Bare packet) = (refl, tt)
numbered_packets (Capture head input) = are_from head MAX_FRAMES 1 (drop HEAD_LEN input)
numbered_packets (Ng input) = are_from_ng 1 (reading_of (Ng input)).frames (numbered_file input)

-- ---- the bytes of a frame's packet are among those of the input

abbrev pub AreBytes : List ℕ → Type 0
AreBytes bytes = All (λ byte. byte < 2 ^ 8) bytes

abbrev pub HoldsBytes : Body → Type 0
HoldsBytes (bodies.V6 packet) = AreBytes packet
HoldsBytes (bodies.V4 packet) = AreBytes packet
HoldsBytes bodies.ShortFrame = Unit {0}
HoldsBytes bodies.NotIp = Unit {0}

-- a frame of a number that 32 bits hold, with a packet of bytes
abbrev pub IsOfBytes : Frame → Type 0
IsOfBytes frame = (frame.number < 2 ^ 32) × HoldsBytes frame.body

version_by : (six four : Bool) (packet : List ℕ) → AreBytes packet
    → HoldsBytes (if six then bodies.V6 packet else if four then bodies.V4 packet else bodies.NotIp)
version_by true four packet h = h
version_by false true packet h = h
version_by false false packet h = tt

ethertype_by : (short six four : Bool) (packet : List ℕ) → AreBytes packet
    → HoldsBytes (if short then bodies.NotIp else if six then bodies.V6 packet else if four then bodies.V4 packet else bodies.NotIp)
ethertype_by true six four packet h = tt
ethertype_by false six four packet h = version_by six four packet h

-- the two EtherTypes are those of IPv6 and of IPv4
ethertype_bytes : (bytes : List ℕ) → AreBytes bytes → HoldsBytes (by_ethertype bytes)
ethertype_bytes bytes h =
    let kind = number_of false 2 (drop 12 bytes) in
    ethertype_by (nat_lt (length bytes) 14) (kind == 34525) (kind == 2048) (drop 14 bytes) (All-drop (λ byte. byte < 2 ^ 8) 14 bytes h)

packet_bytes : (link : LinkType) (bytes : List ℕ) → AreBytes bytes → HoldsBytes (packet_in link bytes)
unfolding packet_in
packet_bytes links.Ethernet bytes h = ethertype_bytes bytes h
packet_bytes links.Raw bytes h = version_by (slice_index bytes 0 / 16 == 6) (slice_index bytes 0 / 16 == 4) bytes h
packet_bytes links.Ipv6 bytes h = h

-- of a classic capture

body_bytes : (link : LinkType) (f : Spelled) → AreBytes f.captured → HoldsBytes (classic.body_of link f)
unfolding classic.body_of
body_bytes link f h = by_length (nat_lt (length f.captured) f.original)
  where
    by_length : (short : Bool) → HoldsBytes (if short then bodies.ShortFrame else packet_in link f.captured)
    by_length true = tt
    by_length false = packet_bytes link f.captured h

captured_bytes : (little : Bool) (bytes : List ℕ) → AreBytes bytes → AreBytes (first_frame little bytes).captured
unfolding first_frame
captured_bytes little bytes h =
    All-take (λ byte. byte < 2 ^ 8) _ (drop 16 bytes) (All-drop (λ byte. byte < 2 ^ 8) 16 bytes h)

bytes_frames : (head : CaptureHead) (most n : ℕ) (bytes : List ℕ) → AreBytes bytes → n + most < 2 ^ 32
    → All IsOfBytes (frames_of head most n bytes).frames
bytes_frames head zero n bytes h small =
    subst (λ (r : Reading). All IsOfBytes r.frames) (sym (frames_of_zero head n bytes)) (All-nil IsOfBytes)
bytes_frames head (suc most) n bytes h small =
    elim (cases_lt (length bytes) (frame_len head.little bytes)) [
      | inl less ↦ subst (λ (r : Reading). All IsOfBytes r.frames) (sym (frames_of_none head (suc most) n bytes less)) (All-nil IsOfBytes)
      | inr whole ↦ subst (λ (r : Reading). All IsOfBytes r.frames) (sym (frames_of_whole head most n bytes whole))
          (All-cons IsOfBytes (numbered head.link n (first_frame head.little bytes))
          (frames_of head most (n + 1) (behind head.little bytes)).frames
          (omega (arith, small), body_bytes head.link (first_frame head.little bytes) (captured_bytes head.little bytes h))
          (bytes_frames head most (n + 1) (behind head.little bytes)
          (All-drop (λ byte. byte < 2 ^ 8) (frame_len head.little bytes) bytes h) (omega (arith, small))))
    ]

-- of a pcapng file

block_bytes : (link : Option LinkType) (captured : List ℕ) → AreBytes captured → HoldsBytes (body_in link captured)
block_bytes (Some link) captured h = packet_bytes link captured h
block_bytes None captured h = tt

-- of an input

abbrev pub InBytes : Packets → Type 0
InBytes (Bare packet) = AreBytes packet
InBytes (Capture head input) = AreBytes input
InBytes (Ng input) = AreBytes input

pub bytes_packets : (packets : Packets) → InBytes packets → All IsOfBytes (reading_of packets).frames
bytes_packets (Bare packet) h =
    All-cons IsOfBytes (record { number = 1; body = bodies.V6 packet }) [] (omega arith, h) (All-nil IsOfBytes)
bytes_packets (Capture head input) h =
    bytes_frames head MAX_FRAMES 1 (drop HEAD_LEN input) (All-drop (λ byte. byte < 2 ^ 8) HEAD_LEN input h) (omega arith)
bytes_packets (Ng input) h =
    each_held IsOfBytes (λ n few. (omega (arith, few), tt))
    (λ n link captured few bytes. (omega (arith, few), block_bytes link captured bytes)) input h

in_unless : (refusal : Option Refusal) (input : List ℕ) (packets : Packets) → AreBytes input
    → ng_unless refusal input ≡ Ok packets → InBytes packets
in_unless (Some refusal) input packets h e = absurd (let no : ⊥ = cc in no)
in_unless None input packets h e = let same : Ng input ≡ packets = cc in subst InBytes same h

in_ng : (end : Option NgEnd) (input : List ℕ) (packets : Packets) → AreBytes input → ng_by end input ≡ Ok packets → InBytes packets
in_ng (Some end) input packets h e = in_unless (refusal_of_ng_end end) input packets h e
in_ng None input packets h e = let same : Ng input ≡ packets = cc in subst InBytes same h

in_capture : (head : Result CaptureHead CaptureFault) (input : List ℕ) (packets : Packets) → AreBytes input
    → capture_by head input ≡ Ok packets → InBytes packets
in_capture (Ok head) input packets h e = let same : Capture head input ≡ packets = cc in subst InBytes same h
in_capture (Err captures.PcapNg) input packets h e = in_ng (ng.end_at_start input) input packets h e
in_capture (Err captures.CutHead) input packets h e = absurd (let no : ⊥ = cc in no)
in_capture (Err captures.BadMagic) input packets h e = absurd (let no : ⊥ = cc in no)
in_capture (Err captures.BadVersion) input packets h e = absurd (let no : ⊥ = cc in no)
in_capture (Err (captures.BadLink link)) input packets h e = absurd (let no : ⊥ = cc in no)
in_capture (Err captures.FrameLimit) input packets h e = absurd (let no : ⊥ = cc in no)

in_bare : (bare : Bool) (input : List ℕ) (packets : Packets) → AreBytes input
    → (if bare then Ok (Bare input) else capture_by (head_of input) input) ≡ Ok packets → InBytes packets
in_bare true input packets h e = let same : Bare input ≡ packets = cc in subst InBytes same h
in_bare false input packets h e = in_capture (head_of input) input packets h e

in_limit : (many : Bool) (refusal : Refusal) (read : Result Packets Refusal) (packets : Packets)
    → (if many then Err refusal else read) ≡ Ok packets → read ≡ Ok packets
in_limit true refusal read packets e = absurd (let no : ⊥ = cc in no)
in_limit false refusal read packets e = e

pub in_input : (input : List ℕ) (packets : Packets) → AreBytes input → packets_in input ≡ Ok packets → InBytes packets
in_input input packets h e = in_bare (is_bare input) input packets h
    (in_limit (nat_lt MAX_INPUT_BYTES (length input)) (refusals.TooBig MAX_INPUT_BYTES)
    (if is_bare input then Ok (Bare input) else capture_by (head_of input) input) packets e)
