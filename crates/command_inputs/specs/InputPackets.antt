-- The packets of the input, each with its number: one bare packet, or the frames of a capture or of a pcapng file.
use Rattle.std.specs.Prelude.{ℕ, ◌+◌, ◌-◌, ◌/◌, Bool, ◌&&◌, ◌==◌, not, nat_lt, if◌then◌else◌, List, [], ◌∷◌, length, drop, slice_index, Option, Some, None, Result, Ok, Err}
use Rattle.pcap_io.specs.declared.fault.CaptureFault.{CaptureFault}
use Rattle.pcap_io.specs.declared.fault.CaptureFault.TheVariants.{FrameLimit}
use Rattle.pcap_io.specs.declared.fault.CaptureFault.TheVariants as captures
use Rattle.pcap_io.specs.declared.frame.Body.TheVariants as bodies
use Rattle.pcap_io.specs.declared.frame.Frame.{Frame}
use Rattle.pcap_io.specs.declared.capture_head.CaptureHead.{CaptureHead}
use Rattle.pcap_io.specs.declared.numbers.TheConstants.{HEAD_LEN, MAX_FRAMES}
use Rattle.pcap_io.specs.Frames.{Reading, frames_of}
use Rattle.pcap_io.specs.Head.{head_of}
use Rattle.pcapng_io.specs.declared.end.NgEnd.{NgEnd}
use Rattle.pcapng_io.specs.declared.end.NgEnd.TheVariants as ends
use Rattle.pcapng_io.specs.declared.fault.NgFault.TheVariants as ng
use Rattle.pcapng_io.specs.NgReading.{NgReading, end_at_start, ng_capture_of}
use Rattle.command_output.specs.declared.limits.TheConstants.{MAX_INPUT_BYTES}
use Rattle.command_inputs.specs.declared.input_packets.Packets.{Packets}
use Rattle.command_inputs.specs.declared.input_packets.Packets.TheVariants.{Bare, Capture, Ng}
use Rattle.command_output.specs.declared.refusal.Refusal.{Refusal}
use Rattle.command_output.specs.declared.refusal.Refusal.TheVariants as refusals

-- what the input is: one bare IPv6 packet, of which the first half byte is 6, a classic capture, or a pcapng file

abbrev pub is_bare : List ℕ → Bool
is_bare input = not (length input == 0) && ((slice_index input 0 / 16) == 6)

-- the refusal of how a pcapng file ends: none where it ends with its last block, and want of memory is no end
abbrev pub refusal_of_ng_end : NgEnd → Option Refusal
refusal_of_ng_end ends.Whole = None
refusal_of_ng_end (ends.CutIn block) = Some (refusals.NgCut block)
refusal_of_ng_end (ends.Faulty (ng.NgMagic block)) = Some (refusals.NgMagic block)
refusal_of_ng_end (ends.Faulty (ng.NgBlock block)) = Some (refusals.NgBlock block)
refusal_of_ng_end (ends.Faulty (ng.NgVersion block)) = Some (refusals.NgVersion block)
refusal_of_ng_end (ends.Faulty (ng.NgOldBlock block)) = Some (refusals.NgOldBlock block)
refusal_of_ng_end (ends.Faulty (ng.NgInterface block)) = Some (refusals.NgInterface block)
refusal_of_ng_end (ends.Faulty ng.FrameLimit) = Some (refusals.Capture FrameLimit)
refusal_of_ng_end (ends.Faulty ng.NoMemory) = None

-- a pcapng file whose first block is cut or faulty is refused; where a later one is, the packets before it are read
abbrev pub ng_unless : Option Refusal → List ℕ → Result Packets Refusal
ng_unless (Some refusal) input = Err refusal
ng_unless None input = Ok (Ng input)

abbrev pub ng_by : Option NgEnd → List ℕ → Result Packets Refusal
ng_by (Some end) input = ng_unless (refusal_of_ng_end end) input
ng_by None input = Ok (Ng input)

abbrev pub ng_in : List ℕ → Result Packets Refusal
ng_in input = ng_by (end_at_start input) input

abbrev pub capture_by : Result CaptureHead CaptureFault → List ℕ → Result Packets Refusal
capture_by (Ok head) input = Ok (Capture head input)
capture_by (Err captures.PcapNg) input = ng_in input
capture_by (Err captures.CutHead) input = Err (refusals.Capture captures.CutHead)
capture_by (Err captures.BadMagic) input = Err (refusals.Capture captures.BadMagic)
capture_by (Err captures.BadVersion) input = Err (refusals.Capture captures.BadVersion)
capture_by (Err (captures.BadLink link)) input = Err (refusals.Capture (captures.BadLink link))
capture_by (Err captures.FrameLimit) input = Err (refusals.Capture captures.FrameLimit)

abbrev pub packets_in : List ℕ → Result Packets Refusal
packets_in input =
    if nat_lt MAX_INPUT_BYTES (length input) then Err (refusals.TooBig MAX_INPUT_BYTES)
    else if is_bare input then Ok (Bare input)
    else capture_by (head_of input) input

-- the refusal of what is after so many frames: more than there may be, or a frame that is cut
abbrev pub fault_behind : ℕ → List ℕ → Option Refusal
fault_behind count rest =
    if length rest == 0 then None
    else if count == MAX_FRAMES then Some (refusals.Capture FrameLimit)
    else Some (refusals.CutFrame (count + 1))

-- the frames of an input, numbered from 1, and the refusal of what is after the last one, if anything is
pub record InputFrames : Type 0 where
  pub frames : List Frame
  pub end : Option Refusal

abbrev pub classic_frames : Reading → InputFrames
classic_frames read = record { frames = read.frames; end = fault_behind (length read.frames) read.rest }

abbrev pub ng_frames : NgReading → InputFrames
ng_frames read = record { frames = read.frames; end = refusal_of_ng_end read.end }

-- a bare packet is the only one
abbrev pub reading_of : Packets → InputFrames
reading_of (Bare packet) = record { frames = record { number = 1; body = bodies.V6 packet } ∷ []; end = None }
reading_of (Capture head input) = classic_frames (frames_of head MAX_FRAMES 1 (drop HEAD_LEN input))
reading_of (Ng input) = ng_frames (ng_capture_of input)

abbrev pub fault_of : InputFrames → Option Refusal
fault_of read = read.end
