-- Need not be believed: helps proofs and other laws.
-- Terms beside those of `specs/InputPackets.antt`.
use Rattle.std.specs.Prelude.{◌+◌, ◌-◌, ◌≤◌, length, Option, Some, None, ⊤}
use Rattle.pcap_io.specs.declared.fault.CaptureFault.TheVariants.{FrameLimit}
use Rattle.pcap_io.specs.declared.numbers.TheConstants.{HEAD_LEN, MAX_FRAMES}
use Rattle.pcap_io.specs.declared.pieces.CaptureEnd.{CaptureEnd}
use Rattle.pcap_io.specs.declared.pieces.CaptureEnd.TheVariants as capture_ends
use Rattle.pcap_io.specs.CaptureTerms.{Reader}
use Rattle.pcap_io.specs.Frames.{Reading, frames_of}
use Rattle.pcapng_io.specs.declared.numbers.TheConstants.{MAX_INPUT}
use Rattle.command_inputs.specs.declared.input_packets.Packets.{Packets}
use Rattle.command_inputs.specs.declared.input_packets.Packets.TheVariants.{Bare, Capture, Ng}
use Rattle.command_output.specs.declared.refusal.Refusal.{Refusal}
use Rattle.command_output.specs.declared.refusal.Refusal.TheVariants as refusals

-- what the input is: one bare IPv6 packet, of which the first half byte is 6, a classic capture, or a pcapng file

-- the refusal of how a capture ends: none where it ends with its last whole frame
abbrev pub refusal_of_capture_end : CaptureEnd → Option Refusal
refusal_of_capture_end capture_ends.Whole = None
refusal_of_capture_end (capture_ends.CutIn frame) = Some (refusals.CutFrame frame)
refusal_of_capture_end capture_ends.AtLimit = Some (refusals.Capture FrameLimit)

-- a capture has its head, and a file is no longer than a reader is fed
abbrev pub HasHead : Packets → Type 0
HasHead (Bare packet) = ⊤
HasHead (Capture head input) = HEAD_LEN ≤ length input
HasHead (Ng input) = length input ≤ MAX_INPUT

-- the frames that a reader has left
abbrev pub left_of : Reader → Reading
left_of reader = frames_of reader.head (MAX_FRAMES - reader.taken) (reader.taken + 1) reader.rest
