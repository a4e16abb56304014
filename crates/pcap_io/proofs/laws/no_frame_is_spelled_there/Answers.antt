use Rattle.pcap_io.proofs.FrameLemmas.{none_spelled, some_spelled}
use Rattle.pcap_io.proofs.laws.no_frame_is_spelled_there.Goals as goal

pub returns-clause-none : goal.returns-clause-none
returns-clause-none c = none_spelled

pub returns-clause-some : goal.returns-clause-some
returns-clause-some c = some_spelled
