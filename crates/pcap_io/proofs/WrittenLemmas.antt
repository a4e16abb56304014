-- What is written reads back.
use Rattle.std.proofs.Common.{◌≡◌, ℕ, suc, ◌+◌, ◌^◌, ◌<◌, ◌≤◌, Bool, List, [], ◌∷◌, ◌++◌, length, drop, All, Ok, refl, sym, ap, ◌∙◌, arith}
use Rattle.std.specs.List.{flat_map}
use Rattle.std.proofs.lemmas.Bool.{le-ltb}
use Rattle.std.proofs.lemmas.List.{append-nil}
use Rattle.pcap_io.specs.declared.frame.Frame.{Frame}
use Rattle.pcap_io.specs.declared.capture_head.LinkType.TheVariants as links
use Rattle.pcap_io.specs.declared.numbers.TheConstants.{HEAD_LEN, MAX_FRAMES, SNAPLEN}
use Rattle.srv6_rules.specs.declared.numbers.TheConstants.{MAX_PACKET_LEN}
use Rattle.pcap_io.specs.Head.{Unread, head_of}
use Rattle.pcap_io.specs.HeadTerms.{FitsHead}
use Rattle.pcap_io.specs.Frames.{Spelled, frame_bytes, frame_len, by_version, packet_in, body_of, with_front, frames_of}
use Rattle.pcap_io.specs.FramesTerms.{Fits, HoldsNoFrame, numbered_from}
use Rattle.pcap_io.specs.Capture.{written_head, written_head_bytes, written_frame, written_frame_bytes}
use Rattle.pcap_io.proofs.FrameLemmas.{frames_of_frame_bytes, frames_of_spelled}
use Rattle.pcap_io.proofs.HeadLemmas.{head_read, behind_head}

abbrev written_unread : Unread
written_unread = record { zone = 0; sigfigs = 0; snaplen = SNAPLEN; high = 0 }

written_fits : FitsHead written_unread
written_fits = record { zone = omega arith; sigfigs = omega arith; snaplen = omega arith; high = omega arith }

pub written_head_read : (rest : List ℕ) → head_of (written_head_bytes ++ rest) ≡ Ok written_head
unfolding written_head_bytes
written_head_read rest = head_read written_head written_unread rest written_fits

behind_written : (rest : List ℕ) → drop HEAD_LEN (written_head_bytes ++ rest) ≡ rest
unfolding written_head_bytes
behind_written rest = behind_head written_head written_unread rest

written_body : (number link : ℕ) (packet : List ℕ) → body_of links.Raw (written_frame number link packet) ≡ by_version packet
unfolding body_of packet_in
written_body number link packet = rw (le-ltb (length packet) (length packet) (omega arith)) refl

-- a frame that is written is read, whatever follows it
pub written_frame_read : (number link most n : ℕ) (packet rest : List ℕ) → number < 2 ^ 32 → link < 2 ^ 32 → length packet ≤ MAX_PACKET_LEN
    → frames_of written_head (suc most) n (written_frame_bytes number link packet ++ rest)
    ≡ with_front (record { number = n; body = by_version packet } ∷ []) (frames_of written_head most (n + 1) rest)
written_frame_read number link most n packet rest fits_number fits_link fits_packet =
    let f = written_frame number link packet in
    let len : length packet < 2 ^ 32 = omega arith in
    let fits : Fits f = record { seconds = fits_number; fraction = fits_link; original = len; captured = len } in
    frames_of_frame_bytes written_head most n f rest fits
    ∙ ap (λ body. let frame : Frame = record { number = n; body = body } in
    with_front (frame ∷ []) (frames_of written_head most (n + 1) rest))
    (written_body number link packet)

-- no frame stands in no bytes
nothing : (little : Bool) → HoldsNoFrame little []
unfolding frame_len
nothing little = omega arith

all_read : (most : ℕ) (frames : List Spelled) → All Fits frames → length frames ≤ most
    → frames_of written_head most 1 (flat_map (frame_bytes written_head.little) frames)
    ≡ record { frames = numbered_from written_head.link 1 frames; rest = [] }
all_read most frames fit within =
    let bytes = flat_map (frame_bytes written_head.little) frames in
    ap (frames_of written_head most 1) (sym (append-nil bytes))
    ∙ frames_of_spelled written_head most 1 frames [] fit within (λ below. nothing written_head.little)

-- a capture of frames that are spelled is read
pub written_capture_read : (frames : List Spelled) → All Fits frames → length frames ≤ MAX_FRAMES
    → frames_of written_head MAX_FRAMES 1 (drop HEAD_LEN (written_head_bytes ++ flat_map (frame_bytes written_head.little) frames))
    ≡ record { frames = numbered_from written_head.link 1 frames; rest = [] }
written_capture_read frames fit within =
    ap (frames_of written_head MAX_FRAMES 1) (behind_written (flat_map (frame_bytes written_head.little) frames))
    ∙ all_read MAX_FRAMES frames fit within
