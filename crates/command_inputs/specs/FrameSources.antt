-- Need not be believed: helps proofs and other laws.
-- Where the frames of an input come from: they are those of a bare packet, a capture or a pcapng file.
use Rattle.command_inputs.specs.declared.sources.BareFrames.{BareFrames}
use Rattle.command_inputs.specs.declared.sources.CaptureFrames.{CaptureFrames}
use Rattle.command_inputs.specs.declared.sources.NgFrames.{NgFrames}
use Rattle.command_inputs.specs.declared.sources.PacketFrames.{PacketFrames}
use Rattle.command_inputs.specs.declared.sources.PacketFrames.TheVariants as sources
use Rattle.command_inputs.specs.InputFrames.{FramesSeen, bare_by, ng_seen_at, seen_at}

abbrev pub bare_seen : BareFrames → FramesSeen
bare_seen f = bare_by f.given f.packet.now

abbrev pub capture_seen : CaptureFrames → FramesSeen
capture_seen f = seen_at f.pieces.at f.pieces.left

abbrev pub ng_seen : NgFrames → FramesSeen
ng_seen f = ng_seen_at f.at_hand f.pieces

abbrev pub packets_seen : PacketFrames → FramesSeen
packets_seen (sources.Bare f) = bare_seen f
packets_seen (sources.Capture f) = capture_seen f
packets_seen (sources.Ng f) = ng_seen f
