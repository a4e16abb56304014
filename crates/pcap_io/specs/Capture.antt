-- What a reader has left of a capture, and what is written.
use Rattle.std.specs.Prelude.{ℕ, true, false, List, length}
use Rattle.pcap_io.specs.declared.capture_head.CaptureHead.{CaptureHead}
use Rattle.pcap_io.specs.declared.capture_head.LinkType.TheVariants as links
use Rattle.pcap_io.specs.declared.numbers.TheConstants.{SNAPLEN}
use Rattle.pcap_io.specs.Head.{head_bytes}
use Rattle.pcap_io.specs.Frames.{Spelled, frame_bytes}

-- The head that is written: lowest byte first, microseconds, raw IP packets.
abbrev pub written_head : CaptureHead
written_head = record { little = true; nanos = false; link = links.Raw }

unfoldable pub written_head_bytes : List ℕ
written_head_bytes = head_bytes written_head (record { zone = 0; sigfigs = 0; snaplen = SNAPLEN; high = 0 })

-- the frame that is written: the packet's number as seconds, a link's number as microseconds, and the packet, whole
abbrev pub written_frame : ℕ → ℕ → List ℕ → Spelled
written_frame number link packet =
    record { seconds = number; fraction = link; original = length packet; captured = packet }

abbrev pub written_frame_bytes : ℕ → ℕ → List ℕ → List ℕ
written_frame_bytes number link packet = frame_bytes written_head.little (written_frame number link packet)
