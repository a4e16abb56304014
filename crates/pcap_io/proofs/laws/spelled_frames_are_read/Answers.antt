use Rattle.pcap_io.proofs.FrameLemmas.{splits_read}
use Rattle.pcap_io.proofs.laws.spelled_frames_are_read.Goals as goal

pub returns : goal.returns
returns c = splits_read
