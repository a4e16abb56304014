use Rattle.pcap_io.proofs.WrittenLemmas.{written_head_read, written_frame_read, written_capture_read}
use Rattle.pcap_io.proofs.laws.written_captures_are_read.Goals as goal

pub returns-clause-head : goal.returns-clause-head
returns-clause-head c = written_head_read

pub returns-clause-frame : goal.returns-clause-frame
returns-clause-frame c = written_frame_read

pub returns-clause-whole : goal.returns-clause-whole
returns-clause-whole c = written_capture_read
