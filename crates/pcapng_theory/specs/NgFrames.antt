-- Need not be believed: helps proofs and other laws.
-- The frames and the end that are told of a pcapng file (own rule).
use Rattle.std.specs.Prelude.{ℕ, ◌+◌, ◌==◌, nat_lt, if◌then◌else◌, List, [], ◌∷◌, length}
use Rattle.pcap_io.specs.declared.frame.Body.{Body}
use Rattle.pcap_io.specs.declared.frame.Body.TheVariants.{V6, ShortFrame, NotIp}
use Rattle.pcap_io.specs.declared.frame.Frame.{Frame}
use Rattle.pcap_io.specs.Frames.{by_version, by_ethertype}
use Rattle.pcapng_io.specs.declared.end.NgEnd.{NgEnd}
use Rattle.pcapng_io.specs.declared.end.NgEnd.TheVariants as ends
use Rattle.pcapng_io.specs.declared.fault.NgFault.TheVariants as ng
use Rattle.pcapng_io.specs.NgReading.{NgReading}
use Rattle.pcapng_theory.specs.NgBlocks.{Packet}
use Rattle.pcapng_theory.specs.NgEndings.{Ending, EndOfBytes, Cut, BadMagic, BadBlock, BadVersion, NoInterface, ObsoleteBlock, TooManyPackets}
use Rattle.pcapng_theory.specs.NgFiles.{File, file_packets, ending_block}

-- what the data of a packet holds, by its LinkType: Ethernet, raw IP or IPv6
abbrev pub held_by : ℕ → List ℕ → Body
held_by link_type packet_data =
    if link_type == 1 then by_ethertype packet_data
    else if link_type == 101 then by_version packet_data
    else if link_type == 229 then V6 packet_data
    else NotIp

-- a packet of which bytes were left out is not looked into
abbrev pub frame_of : ℕ → Packet → Frame
frame_of number p =
    record {
      number = number;
      body = if nat_lt (length p.packet_data) p.original then ShortFrame else held_by p.link_type p.packet_data;
    }

abbrev pub frames_from : ℕ → List Packet → List Frame
frames_from number [] = []
frames_from number (p ∷ more) = frame_of number p ∷ frames_from (number + 1) more

-- what is told of an ending in the block of a number
abbrev pub end_in : ℕ → Ending → NgEnd
end_in block EndOfBytes = ends.Whole
end_in block Cut = ends.CutIn block
end_in block BadMagic = ends.Faulty (ng.NgMagic block)
end_in block BadBlock = ends.Faulty (ng.NgBlock block)
end_in block BadVersion = ends.Faulty (ng.NgVersion block)
end_in block NoInterface = ends.Faulty (ng.NgInterface block)
end_in block ObsoleteBlock = ends.Faulty (ng.NgOldBlock block)
end_in block TooManyPackets = ends.Faulty ng.FrameLimit

-- packets are numbered from 1 over all sections
abbrev pub file_reading : File → NgReading
file_reading f = record { frames = frames_from 1 (file_packets f); end = end_in (ending_block f) f.ending }
