use Rattle.pcap_io.proofs.FrameLemmas.{frames_spelled}
use Rattle.pcap_io.proofs.laws.frames_are_spelled.Goals as goal

pub returns : goal.returns
returns c = frames_spelled
